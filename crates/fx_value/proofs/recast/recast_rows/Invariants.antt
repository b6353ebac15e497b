use Rattle.std.proofs.Common.{◌≡◌, ◌++◌, map, take, drop, IfSome}
use Rattle.fx_value.specs.Recast.{IsRecast}
use Rattle.fx_value.proofs.recast.recast_rows.Given as goal

abbrev pub invariant-loop-row : goal.invariant-loop-row
invariant-loop-row g l =
    (l.row-items ≡ map (g.R.Recast.of_row l.recast) (take l.row-index l.initial.row-items) ++ drop l.row-index l.initial.row-items)
    × IfSome l.last (IsRecast (g.R.Recast.of_head l.recast))
