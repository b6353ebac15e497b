use Rattle.std.proofs.Common.{true, [], ◌∷◌}
use Rattle.fx_value.specs.declared.scalar.Kind.TheVariants as kind
use Rattle.fx_infer.proofs.AskingLaws.{signed_asked}
use Rattle.fx_infer.proofs.operators.signed.Goals as goal

pub returns : goal.returns
returns c = signed_asked (kind.Int ∷ []) true c.args.bindings c.in_ok-bindings.bindings c.args.of.now c.in_ok-ty.ty c.in_ok-ty.ensures c.requires c.in_ok-bindings.ensures
