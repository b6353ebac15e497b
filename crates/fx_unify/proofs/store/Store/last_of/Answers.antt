use Rattle.std.proofs.Common.{ap, sym, ◌∙◌}
use Rattle.fx_types.specs.Shape.{term}
use Rattle.fx_types.specs.Term.{type_variable}
use Rattle.fx_types.proofs.ShapeLaws.{term_variable}
use Rattle.fx_unify.specs.Part.{p_is, value}
use Rattle.fx_unify.proofs.JoinLaws.{led_before}
use Rattle.fx_unify.proofs.store.Store.last_of.Goals as goal

pub returns-in-Var : goal.returns-in-Var
returns-in-Var c =
    led_before c.args.self.now (p_is (term c.args.ty.now)) (p_is (type_variable c.in-Var.number)) (λ s solved. ap (λ t. value s (p_is t)) (sym (ap term c.in-Var.is ∙ term_variable c.in-Var.number))) c.last_after.result c.last_after.ensures
