use Rattle.std.proofs.Common.{◌≡◌, ◌+◌, ◌++◌, length}
use Rattle.fx_data.specs.Ascending.{Rise}
use Rattle.fx_join.specs.Meet.{meetings}
use Rattle.fx_join.proofs.meeting.meet.Given as goal

abbrev pub invariant-loop-meeting : goal.invariant-loop-meeting
invariant-loop-meeting l = record {
  same : l.met.items ++ meetings l.left.items l.right.items ≡ meetings l.fn.lefts l.fn.rights;
  lefts : Rise l.left.items;
  rights : Rise l.right.items;
}

abbrev pub decreases-loop-meeting : goal.decreases-loop-meeting
decreases-loop-meeting l = length l.left.items + length l.right.items
