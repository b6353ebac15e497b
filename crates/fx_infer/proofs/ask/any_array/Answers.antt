use Rattle.std.proofs.Common.{◌↔◌, ◌∙◌, ap, subst}
use Rattle.fx_types.specs.Instance.{Solution, ground}
use Rattle.fx_types.specs.Shape.{term}
use Rattle.fx_types.specs.Size.{IsType}
use Rattle.fx_types.specs.Term.{array}
use Rattle.fx_unify.specs.Solutions.{Solves}
use Rattle.fx_infer.proofs.DivideLaws.{at_most}
use Rattle.fx_infer.proofs.MoreArms.{array_asked}
use Rattle.fx_infer.proofs.ask.any_array.Goals as goal

pub returns : goal.returns
returns c =
    array_asked c.args.bindings c.in_ok-any.any.bindings c.in_ok-bindings.bindings (λ s. ground s (term c.in_ok-any.any.ty)) c.in_ok-any.ensures
    (subst (λ u. (s : Solution) → Solves s c.in_ok-bindings.bindings ↔ (Solves s c.in_ok-any.any.bindings × IsType (ground s u))) (c.in_ok-whole.ensures ∙ ap (λ t. array (term t)) c.in_ok-copy.ensures) c.in_ok-bindings.ensures.ok)
    (at_most _ _ _ c.in_ok-bindings.ensures.next)
