use Rattle.std.proofs.Common.{◌≡◌}
use Rattle.fx_join.specs.Part.{with_keyed}
use Rattle.fx_join.proofs.joining.push_rows.Given as goal

abbrev pub invariant-loop-row : goal.invariant-loop-row
invariant-loop-row l = with_keyed l.key l.runs l.row-iterator.rest.items ≡ with_keyed l.key l.fn.runs l.fn.rows
