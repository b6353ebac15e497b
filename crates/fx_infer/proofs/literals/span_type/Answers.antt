use Rattle.std.proofs.Common.{ap}
use Rattle.fx_types.specs.Instance.{ground}
use Rattle.fx_types.proofs.ShapeLaws.{term_span}
use Rattle.fx_infer.proofs.ArmLaws.{span_found}
use Rattle.fx_infer.proofs.literals.span_type.Goals as goal

pub returns : goal.returns
returns c = span_found c.args.months c.args.nanos c.args.bindings _ c.ranges.months c.ranges.nanos (λ s. ap (ground s) term_span)
