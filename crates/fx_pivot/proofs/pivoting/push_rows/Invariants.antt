use Rattle.std.proofs.Common.{◌≡◌, map}
use Rattle.fx_group.specs.Turned.{with_rows}
use Rattle.fx_pivot.specs.Pivot.{keyed}
use Rattle.fx_pivot.proofs.pivoting.push_rows.Given as goal

abbrev pub invariant-loop-row : goal.invariant-loop-row
invariant-loop-row l = with_rows l.runs (map (keyed l.key) l.row-iterator.rest.items) ≡ with_rows l.fn.runs (map (keyed l.key) l.fn.rows)
