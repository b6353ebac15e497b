use Rattle.std.proofs.Common.{ap, arith}
use Rattle.fx_types.specs.Ground.{g_text}
use Rattle.fx_types.specs.Instance.{ground}
use Rattle.fx_types.proofs.ShapeLaws.{term_text}
use Rattle.fx_infer.proofs.ArmLaws.{only_found}
use Rattle.fx_infer.proofs.literals.text_type.Goals as goal

pub returns : goal.returns
returns c = only_found g_text c.args.bindings _ (tt, omega arith) (λ s. ap (ground s) term_text)
