use Rattle.std.proofs.Common.{ap, arith, FitsSigned}
use Rattle.std.specs.Int.{w64}
use Rattle.fx_types.specs.Ground.{g_int}
use Rattle.fx_types.specs.Instance.{ground}
use Rattle.fx_types.proofs.ShapeLaws.{term_int}
use Rattle.fx_infer.proofs.ArmLaws.{plain_found}
use Rattle.fx_infer.proofs.literals.int_type.Goals as goal

pub returns : goal.returns
returns c = plain_found (FitsSigned w64 c.args.value) g_int c.args.bindings _ (tt, omega arith) c.ranges.value (λ s. ap (ground s) term_int)
