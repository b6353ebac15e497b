use Rattle.std.proofs.Common.{subst}
use Rattle.fx_types.specs.Instance.{ground}
use Rattle.fx_types.specs.Size.{IsType}
use Rattle.fx_types.proofs.ShapeLaws.{term_variable}
use Rattle.fx_infer.specs.Infers.{Infers}
use Rattle.fx_infer.proofs.AskingLaws.{any_type_asked}
use Rattle.fx_infer.proofs.functions.any_variable.Goals as goal

pub returns : goal.returns
returns c =
    subst (Infers (λ s t. IsType t) c.args.bindings c.in_ok-bindings.bindings) (λ i s. ground s (term_variable c.in_ok-number.number i))
    (any_type_asked c.args.bindings c.in_ok-bindings.bindings c.in_ok-number.number c.in_ok-number.ensures c.in_ok-bindings.ensures.ok c.in_ok-bindings.ensures.next)
