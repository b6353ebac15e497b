-- The works of operators have one end under each limit that suffices, where those of their row functions do.
use Rattle.std.proofs.Common.{List, [], ◌∷◌, Bool}
use Rattle.std.specs.Prelude.{if◌then◌else◌}
use Rattle.fx_data.specs.declared.key.Key.{Key}
use Rattle.fx_data.specs.declared.keyed_row.KeyedRow.{KeyedRow}
use Rattle.fx_data.specs.declared.table.Table.{Table}
use Rattle.fx_group.specs.Answer.{Row, Meaning, truth_of, line_of, tested, turned}
use Rattle.fx_group.specs.Filter.{kept_row, kept_rows, table_if, kept_table, kept_tables}
use Rattle.fx_group.specs.Map.{mapped_row, mapped_table, mapped_tables}
use Rattle.fx_group.specs.Turned.{Groups, with_rows, rows_turned, tables_turned}
use Rattle.fx_value.specs.Ends.{Gives, IsLimited}
use Rattle.fx_value.specs.Works.{IsSteady}
use Rattle.fx_value.proofs.Ends.{steady_same, steady_then, steady_each, steady_into, steady_limited}

module _ (means : Meaning) (limited : (rows : List Row) → IsLimited (means rows)) where
  steady : (row : Row) → IsSteady (means (row ∷ []))
  steady row = steady_limited (means (row ∷ [])) (limited (row ∷ []))

  pub steady_tested : (row : Row) → IsSteady (λ n. tested means n row)
  steady_tested row = steady_then (means (row ∷ [])) (λ a n. truth_of a) (steady row) (λ a. steady_same {A = Bool} (truth_of a))

  pub steady_turned : (row : Row) → IsSteady (λ n. turned means n row)
  steady_turned row = steady_then (means (row ∷ [])) (λ a n. line_of a) (steady row) (λ a. steady_same {A = Row} (line_of a))

  steady_kept_row : (row : Row) → IsSteady (λ n. kept_row means n row)
  steady_kept_row row =
      steady_then (λ n. tested means n row) (λ wanted n. Gives (if wanted then row ∷ [] else []) 0) (steady_tested row)
      (λ wanted. steady_same {A = List Row} (Gives (if wanted then row ∷ [] else []) 0))

  pub steady_kept_rows : (rows : List Row) → IsSteady (kept_rows means rows)
  steady_kept_rows rows = steady_each (kept_row means) steady_kept_row rows

  steady_kept_table : (t : Table) → IsSteady (λ n. kept_table means n t)
  steady_kept_table t =
      steady_then (kept_rows means t.rows) (λ rows n. Gives (table_if t.key rows) 0) (steady_kept_rows t.rows)
      (λ rows. steady_same {A = List Table} (Gives (table_if t.key rows) 0))

  pub steady_kept_tables : (tables : List Table) → IsSteady (kept_tables means tables)
  steady_kept_tables tables = steady_each (kept_table means) steady_kept_table tables

  steady_mapped_row : (key : Key) (row : Row) → IsSteady (λ n. mapped_row means key n row)
  steady_mapped_row key row =
      steady_then (λ n. turned means n row) (λ made n. Gives (record { key = key; row = made } ∷ []) 0) (steady_turned row)
      (λ made. steady_same {A = List KeyedRow} (Gives (record { key = key; row = made } ∷ []) 0))

  steady_mapped_table : (t : Table) → IsSteady (λ n. mapped_table means n t)
  steady_mapped_table t = steady_each (mapped_row means t.key) (steady_mapped_row t.key) t.rows

  pub steady_mapped_tables : (tables : List Table) → IsSteady (mapped_tables means tables)
  steady_mapped_tables tables = steady_each (mapped_table means) steady_mapped_table tables

  pub steady_rows_turned : (groups : Groups) (key : Key) (rows : List Row) → IsSteady (rows_turned means groups key rows)
  steady_rows_turned groups key rows =
      steady_into with_rows groups (λ n. mapped_table means n (record { key = key; rows = rows })) (steady_mapped_table (record { key = key; rows = rows }))

  pub steady_tables_turned : (groups : Groups) (tables : List Table) → IsSteady (tables_turned means groups tables)
  steady_tables_turned groups tables = steady_into with_rows groups (mapped_tables means tables) (steady_mapped_tables tables)
