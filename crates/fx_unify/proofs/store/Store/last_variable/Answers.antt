use Rattle.std.proofs.Common.{ap, sym, ◌∙◌}
use Rattle.fx_types.specs.Shape.{term}
use Rattle.fx_unify.specs.Part.{part, p_is, value}
use Rattle.fx_unify.specs.View.{part_seen}
use Rattle.fx_unify.proofs.JoinLaws.{led_before}
use Rattle.fx_unify.proofs.store.Store.last_variable.Goals as goal

pub returns-in-Is : goal.returns-in-Is
returns-in-Is c =
    led_before c.args.self.now (part c.args.field.now) (p_is (term c.in-Is.ty.now))
    (λ s solved. ap (λ v. value s (part_seen v)) (sym c.in-Is.is) ∙ c.in-Ok.ensures.same s solved ∙ ap (value s) c.view.ensures) c.last_of.result c.last_of.ensures
