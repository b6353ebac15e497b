-- Aggregates and selectors over tables.
use Rattle.std.specs.Prelude.{ℕ, pos, List, [], ◌∷◌, map, length}
use Rattle.fx_base.specs.declared.place.Place.{Place}
use Rattle.fx_value.specs.declared.scalar.Scalar.{Scalar}
use Rattle.fx_value.specs.Ends.{End, Gives, and_then}
use Rattle.fx_value.specs.Works.{flat_each}
use Rattle.fx_data.specs.declared.key.Key.{Key}
use Rattle.fx_data.specs.declared.keyed_row.KeyedRow.{KeyedRow}
use Rattle.fx_data.specs.declared.table.Table.{Table}
use Rattle.fx_data.specs.Regrouped.{regrouped}
use Rattle.fx_agg.specs.declared.agg.Agg.{Agg}
use Rattle.fx_agg.specs.declared.agg.Agg.TheVariants.{Count, Sum, Spread}
use Rattle.fx_agg.specs.Chosen.{chosen}
use Rattle.fx_agg.specs.Numbers.{whole, summed, spread_over}
use Rattle.fx_agg.specs.OneRow.{valued, keyed}

-- one row of the value, where there is one
abbrev pub one_row : Key → List ℕ → End Scalar → End (List KeyedRow)
one_row key column end = and_then end (λ value. Gives (valued key column value ∷ []) 0)

-- the number of rows, the sum and the spread of the integers as one row, whatever the rows are; or the row that is chosen
abbrev pub aggregated_table : Place → Agg → List ℕ → Table → End (List KeyedRow)
aggregated_table place Count column t = one_row t.key column (whole place (pos (length t.rows)))
aggregated_table place Sum column t = one_row t.key column (summed place column t.rows)
aggregated_table place Spread column t = one_row t.key column (spread_over place column t.rows)
aggregated_table place which column t = Gives (map (keyed t.key) (chosen which column t.rows)) 0

abbrev pub aggregated_tables : Place → Agg → List ℕ → List Table → End (List KeyedRow)
aggregated_tables place which column tables = flat_each (aggregated_table place which column) tables

-- `count`, `sum`, `spread`, `min`, `max`, `first`, `last`: the rows of all tables, regrouped
unfoldable pub aggregated : Place → Agg → List ℕ → List Table → End (List Table)
aggregated place which column tables = and_then (aggregated_tables place which column tables) (λ rows. Gives (regrouped rows) 0)
