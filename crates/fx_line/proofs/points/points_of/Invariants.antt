use Rattle.fx_line.proofs.Collecting.{HasSeen}
use Rattle.fx_line.proofs.points.points_of.Given as goal

abbrev pub invariant-loop-left : goal.invariant-loop-left
invariant-loop-left l = HasSeen l.head.measurement l.head.tags.items l.head.time l.fields l.left l.collected

abbrev pub decreases-loop-left : goal.decreases-loop-left
decreases-loop-left l = l.left
