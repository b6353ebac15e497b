use Rattle.std.proofs.Common.{◌≡◌, subst}
use Rattle.fx_types.specs.Instance.{ground}
use Rattle.fx_types.specs.Shape.{term}
use Rattle.fx_types.specs.Size.{IsType}
use Rattle.fx_infer.specs.Infers.{Infers}
use Rattle.fx_infer.proofs.RowLaws.{fitted}
use Rattle.fx_infer.proofs.functions.function_type.Goals as goal

pub returns : goal.returns
returns c =
    subst (λ u. Infers (λ s g. IsType g × (g ≡ ground s u)) c.args.bindings c.in_ok-bindings.bindings (λ s. ground s (term c.in_ok-ty.ty))) c.in_ok-ty.ensures
    (fitted c.args.bindings c.in_ok-bindings.bindings (term c.in_ok-ty.ty) c.in_ok-bindings.ensures.ok c.in_ok-bindings.ensures.next)
