-- What sums ask of rows.
use Rattle.std.proofs.Common.{◌≡◌, ◌≢◌, ℕ, true, List, [], ◌∷◌}
use Rattle.std.specs.Prelude.{Option, None, Some}
use Rattle.std.specs.FinMap.{FinMap, get}
use Rattle.std.specs.List.{AllByRecursion, list_all}
use Rattle.fx_agg.specs.Aggregate.{aggregated}
use Rattle.fx_agg.specs.Numbers.{int_of}
use Rattle.fx_agg.specs.declared.agg.Agg.TheVariants.{Sum}
use Rattle.fx_agg.proofs.Unstuck.{HasInt, aggregate_never_stuck}
use Rattle.fx_base.specs.Text.{text_cmp}
use Rattle.fx_base.specs.declared.place.Place.{Place}
use Rattle.fx_data.specs.declared.table.Table.{Table}
use Rattle.fx_group.proofs.Unstuck.{EachRow}
use Rattle.fx_value.specs.declared.scalar.Scalar.{Scalar}
use Rattle.fx_value.specs.declared.scalar.Scalar.TheVariants as scalar
use Rattle.fx_value.specs.Ends.{Stuck}
use Rattle.fx_bench.specs.Counted.{may_be_int, is_counted, has_counted_rows}
use Rattle.fx_bench.proofs.Always.{first_true, second_true}

taken : (value : Option Scalar) → may_be_int value ≡ true → int_of value ≢ Stuck
taken None is = λ h. cc
taken (Some scalar.Null) is = λ h. cc
taken (Some (scalar.Int n)) is = λ h. cc
taken (Some (scalar.Bool b)) is = cc
taken (Some (scalar.Time t)) is = cc
taken (Some (scalar.Text t)) is = cc

rows_taken : (column : List ℕ) (rows : List (FinMap text_cmp Scalar)) → list_all (is_counted column) rows ≡ true → AllByRecursion (HasInt column) rows
rows_taken column [] is = tt
rows_taken column (row ∷ rows) is = (taken (get row column) (first_true _ _ is), rows_taken column rows (second_true _ _ is))

tables_taken : (column : List ℕ) (tables : List Table) → list_all (has_counted_rows column) tables ≡ true → EachRow (HasInt column) tables
tables_taken column [] is = tt
tables_taken column (t ∷ tables) is = (rows_taken column t.rows (first_true _ _ is), tables_taken column tables (second_true _ _ is))

-- a sum is not Stuck where each row has an integer, null or nothing in the column
pub counted_sum : (place : Place) (column : List ℕ) (tables : List Table) → list_all (has_counted_rows column) tables ≡ true → aggregated place Sum column tables ≢ Stuck
counted_sum place column tables is = aggregate_never_stuck place column Sum tables (tables_taken column tables is)
