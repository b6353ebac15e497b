-- Row functions that take no ticks, and what operators ask of them and of rows.
use Rattle.std.proofs.Common.{◌≡◌, ◌≢◌, ℤ, Bool, true, false, List, [], ◌∷◌, map, refl, sym, subst}
use Rattle.std.specs.Prelude.{Option, None, Some, ◌&&◌, codes}
use Rattle.std.specs.FinMap.{FinMap, get}
use Rattle.std.specs.List.{AllByRecursion, list_all}
use Rattle.std.specs.List.Sorted.{IsStrictlySortedBy}
use Rattle.fx_base.specs.Text.{text_cmp}
use Rattle.fx_data.specs.declared.key.KeyEntry.{KeyEntry}
use Rattle.fx_data.specs.declared.table.Table.{Table}
use Rattle.fx_group.specs.Range.{is_between, ranged}
use Rattle.fx_group.proofs.Unstuck.{EachRow, range_never_stuck}
use Rattle.fx_value.specs.declared.scalar.Scalar.{Scalar}
use Rattle.fx_value.specs.declared.scalar.Scalar.TheVariants as scalar
use Rattle.fx_value.specs.Ends.{Stuck}
use Rattle.fx_bench.specs.Timed.{may_be_time, is_timed, has_timed_rows}

abbrev Row : Type 0
Row = FinMap text_cmp Scalar

pub first_true : (a b : Bool) → (a && b) ≡ true → a ≡ true
first_true true b is = refl
first_true false b is = is

pub second_true : (a b : Bool) → (a && b) ≡ true → b ≡ true
second_true true b is = is
second_true false b is = cc

module _ (start stop : ℤ) where
  taken : (value : Option Scalar) → may_be_time value ≡ true → is_between start stop value ≢ Stuck
  taken None is = λ h. cc
  taken (Some scalar.Null) is = λ h. cc
  taken (Some (scalar.Time t)) is = λ h. cc
  taken (Some (scalar.Bool b)) is = cc
  taken (Some (scalar.Int n)) is = cc
  taken (Some (scalar.Text t)) is = cc

  rows_taken : (rows : List Row) → list_all (is_timed (codes "_time")) rows ≡ true → AllByRecursion (λ row. is_between start stop (get row (codes "_time")) ≢ Stuck) rows
  rows_taken [] is = tt
  rows_taken (row ∷ rows) is = (taken (get row (codes "_time")) (first_true _ _ is), rows_taken rows (second_true _ _ is))

  tables_taken : (tables : List Table) → list_all (has_timed_rows (codes "_time")) tables ≡ true → EachRow (λ row. is_between start stop (get row (codes "_time")) ≢ Stuck) tables
  tables_taken [] is = tt
  tables_taken (t ∷ tables) is = (rows_taken t.rows (first_true _ _ is), tables_taken tables (second_true _ _ is))

  -- a range is not Stuck where each row has a time, null or nothing under `_time`
  pub timed_range : (tables : List Table) → list_all (has_timed_rows (codes "_time")) tables ≡ true → ranged start stop tables ≢ Stuck
  timed_range tables is = range_never_stuck start stop tables (tables_taken tables is)

-- the labels of a key without entries rise
pub nothing_rises : (es : List KeyEntry) → es ≡ [] → IsStrictlySortedBy text_cmp (map (λ e. e.label) es)
unfolding IsStrictlySortedBy
nothing_rises es none = subst (λ ds. IsStrictlySortedBy text_cmp (map (λ e. e.label) ds)) (sym none) tt
