use Rattle.std.proofs.Common.{◌≡◌, ◌++◌}
use Rattle.fx_data.proofs.runs.push_rows.Given as goal

abbrev pub invariant-loop-row : goal.invariant-loop-row
invariant-loop-row l = (l.table.key ≡ l.initial.table.key) × (l.table.rows ++ l.row-iterator.rest.items ≡ l.initial.table.rows ++ l.fn.rows)
