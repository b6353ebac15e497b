use Rattle.std.proofs.Common.{ap, arith}
use Rattle.fx_types.specs.Ground.{g_pattern}
use Rattle.fx_types.specs.Instance.{ground}
use Rattle.fx_types.proofs.ShapeLaws.{term_pattern}
use Rattle.fx_infer.proofs.ArmLaws.{only_found}
use Rattle.fx_infer.proofs.literals.pattern_type.Goals as goal

pub returns : goal.returns
returns c = only_found g_pattern c.args.bindings _ (tt, omega arith) (λ s. ap (ground s) term_pattern)
