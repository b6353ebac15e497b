use Rattle.std.proofs.Common.{◌≡◌, None, sym, subst, ◌∙◌, Ok}
use Rattle.fx_types.specs.Shape.{term}
use Rattle.fx_types.specs.Size.{Weighs}
use Rattle.fx_unify.specs.Store.{entry, bound_to}
use Rattle.fx_unify.specs.View.{part_seen}
use Rattle.fx_unify.proofs.PlainRowLaws.{light_of, light_led}
use Rattle.fx_unify.proofs.WeighLaws.{light_term, found_type, nothing_light}
use Rattle.fx_unify.proofs.store.Store.is_light_field.Goals as goal

pub returns-in-Is : goal.returns-in-Is
returns-in-Is c =
    λ e. light_led c.args.self.now c.args.sorts.now (part_seen c.args.view) (part_seen c.in_ok-found.found) c.in_ok-found.ensures.leads (light_of c.args.self.now c.args.sorts.now (part_seen c.in_ok-found.found) 0
    (found_type c.args.self.now c.args.sorts.now Weighs c.in_ok-found.found c.in-Is.ty (Ok 0) 0 c.in-Is.is
    (light_term c.args.self.now c.args.sorts.now (term c.in-Is.ty.now) 0 (sym c.is_light_type.ensures ∙ e) (subst (λ v. bound_to (entry c.args.self.now) (part_seen v) ≡ None) c.in-Is.is c.in_ok-found.ensures.free))))

pub returns-in_default : goal.returns-in_default
returns-in_default c =
    λ e. light_led c.args.self.now c.args.sorts.now (part_seen c.args.view) (part_seen c.in_ok-found.found) c.in_ok-found.ensures.leads
    (nothing_light c.args.self.now c.args.sorts.now c.in_ok-found.found c.in_default.not-Is c.in_ok-found.ensures.free)
