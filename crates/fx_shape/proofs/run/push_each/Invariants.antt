use Rattle.std.proofs.Common.{◌≡◌}
use Rattle.fx_group.specs.Turned.{with_rows}
use Rattle.fx_shape.specs.Run.{keyed}
use Rattle.fx_shape.proofs.run.push_each.Given as goal

abbrev pub invariant-loop-row : goal.invariant-loop-row
invariant-loop-row l = with_rows l.runs (keyed l.key l.row-iterator.rest.items) ≡ with_rows l.fn.runs (keyed l.key l.fn.rows)
