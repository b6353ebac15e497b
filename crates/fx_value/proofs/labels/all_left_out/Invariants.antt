use Rattle.std.proofs.Common.{◌≡◌, take}
use Rattle.fx_value.specs.Change.{all_left_out}
use Rattle.fx_value.proofs.labels.all_left_out.Given as goal

abbrev pub invariant-loop-change : goal.invariant-loop-change
invariant-loop-change l = l.left.value ≡ all_left_out (take l.change-index l.changes) l.head.value
