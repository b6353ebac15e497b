use Rattle.std.proofs.Common.{◌≡◌}
use Rattle.fx_types.specs.Instance.{ground}
use Rattle.fx_types.specs.Shape.{term}
use Rattle.fx_infer.proofs.AskingLaws.{equal_result}
use Rattle.fx_infer.proofs.ask.equal.Goals as goal

pub returns : goal.returns
returns c = equal_result (λ s. ground s (term c.args.left.now) ≡ ground s (term c.args.right.now)) c.args.bindings _ c.later.result c.later.ensures.ok c.later.ensures.next
