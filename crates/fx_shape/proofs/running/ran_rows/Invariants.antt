use Rattle.std.proofs.Common.{◌≡◌, ◌++◌}
use Rattle.std.specs.FinMap.{get}
use Rattle.std.specs.Prelude.{None}
use Rattle.fx_value.specs.Works.{flat_each, into}
use Rattle.fx_shape.specs.Outcome.{come_to, made_of, number_of}
use Rattle.fx_shape.specs.Running.{ran_row, ran_rows, with_before}
use Rattle.fx_shape.proofs.running.ran_rows.Given as goal

abbrev pub invariant-loop-row : goal.invariant-loop-row
invariant-loop-row l =
    ran_rows (come_to l.which) (λ row. number_of l.which (get row l.read)) (made_of l.which l.place l.column) None l.fn.rows
    ≡ into ◌++◌ l.made.items (flat_each (ran_row (come_to l.which) (λ row. number_of l.which (get row l.read)) (made_of l.which l.place l.column))
    (with_before (come_to l.which) (λ row. number_of l.which (get row l.read)) l.before l.row-iterator.rest.items))
