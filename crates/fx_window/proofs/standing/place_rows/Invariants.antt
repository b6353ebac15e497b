use Rattle.std.proofs.Common.{◌≡◌, ◌++◌}
use Rattle.fx_window.specs.Plain.{placed_all}
use Rattle.fx_window.proofs.standing.place_rows.Given as goal

abbrev pub invariant-loop-row : goal.invariant-loop-row
invariant-loop-row l = (l.placed.items ++ placed_all l.row-iterator.rest.items) ≡ placed_all l.fn.rows
