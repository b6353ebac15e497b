use Rattle.std.proofs.Common.{◌≡◌, take}
use Rattle.fx_value.specs.Change.{all_changed_head}
use Rattle.fx_value.proofs.change.head_after.Given as goal

abbrev pub invariant-loop-change : goal.invariant-loop-change
invariant-loop-change l = l.made.value ≡ all_changed_head (take l.change-index l.changes) l.head.value
