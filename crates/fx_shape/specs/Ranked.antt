-- Rows as the code sorts them, with their value in the first column of the order.
use Rattle.std.specs.Prelude.{Bool, List, if◌then◌else◌}
use Rattle.std.specs.FinMap.{get}
use Rattle.std.specs.declared.cmp.Ordering.{Ordering}
use Rattle.std.specs.Ordering.{on, ordering_reverse, then_cmp}
use Rattle.fx_value.specs.Scalar.{scalar_cmp}
use Rattle.fx_group.specs.Answer.{Row}
use Rattle.fx_shape.specs.Columns.{Label}
use Rattle.fx_shape.specs.Sort.{or_null, rows_cmp}
use Rattle.fx_shape.specs.declared.sorting.Ranked.{Ranked}

abbrev pub ranked : Label → Row → Ranked
ranked column row = record { first = or_null (get row column); row = row }

-- by the first column, and then by the others
abbrev pub rising_cmp : List Label → Ranked → Ranked → Ordering
rising_cmp others = then_cmp (on (λ r. r.first) scalar_cmp) (on (λ r. r.row) (rows_cmp others))

abbrev pub ranked_cmp : Bool → List Label → Ranked → Ranked → Ordering
ranked_cmp desc others a b = if desc then ordering_reverse (rising_cmp others a b) else rising_cmp others a b
