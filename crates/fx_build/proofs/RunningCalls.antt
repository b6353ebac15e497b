-- Operators that go through the rows of each table in order are safe.
use Rattle.std.proofs.Common.{◌≡◌, refl, subst, Bool, true, false, List, [], ◌∷◌, ℤ, Option, Some, None}
use Rattle.std.specs.Prelude.{codes, if◌then◌else◌, int_div, IsTrue, ◌-ℤ◌}
use Rattle.std.specs.FinMap.{get, insert}
use Rattle.std.specs.List.{AllByRecursion}
use mathlib.Core.Bool.{false≢true}
use Rattle.fx_base.specs.declared.fault.FaultKind.TheVariants.{BadWindow, Overflow}
use Rattle.fx_base.specs.declared.place.Place.{Place}
use Rattle.fx_time.specs.declared.span.Span.{Span}
use Rattle.fx_value.specs.Ends.{End, Gives, Faults}
use Rattle.fx_value.specs.declared.scalar.Scalar.{Scalar}
use Rattle.fx_value.specs.declared.scalar.Scalar.TheVariants as scalar
use Rattle.fx_types.specs.Ground.{GroundRow, g_int, g_span, g_stream, g_time, g_is}
use Rattle.fx_types.specs.Term.{Label}
use Rattle.fx_data.specs.Regrouped.{regrouped}
use Rattle.fx_data.specs.Table.{HasRisingLabels}
use Rattle.fx_data.specs.declared.key.Key.{Key}
use Rattle.fx_data.specs.declared.table.Table.{Table}
use Rattle.fx_shape.specs.Run.{keyed}
use Rattle.fx_shape.specs.Running.{cumulated, differenced, got, in_64_bits, int_of, is_unit, latest, less_last, passed, ran, ran_row, ran_rows, ran_table, ran_tables, since_last, sum_with, summed, time_of, with_before, with_number, with_sum}
use Rattle.fx_schemes.specs.Builtins.{IsLine}
use Rattle.fx_schemes.specs.Given.{text_at}
use Rattle.fx_schemes.specs.Line.{from_tables, parameters, put}
use Rattle.fx_meaning.specs.declared.stream.StreamFn.TheVariants as s
use Rattle.fx_meaning.specs.Ends.{◌>>=◌, found}
use Rattle.fx_meaning.specs.Forms.{span_in}
use Rattle.fx_meaning.specs.Meaning.{Tests}
use Rattle.fx_meaning.specs.Rows.{Row}
use Rattle.fx_meaning.specs.Value.{Val, Slots, look}
use Rattle.fx_plan.specs.Operators.{at_listed, passed_in, second, span_or}
use Rattle.fx_plan.specs.Sources.{Stored}
use Rattle.fx_build.specs.Bound.{typed}
use Rattle.fx_build.specs.Fit.{fits, keeps_at}
use Rattle.fx_build.specs.Rows.{RowFits, TableFits, TablesFit, is_column_of}
use Rattle.fx_build.specs.Safe.{IsSafe}
use Rattle.fx_build.proofs.ColumnCalls.{again_fits, word_safe}
use Rattle.fx_build.proofs.KindLaws.{of_span}
use Rattle.fx_build.proofs.OperatorCalls.{OperatorIsSafe, by_line, one_safe}
use Rattle.fx_build.proofs.RowLaws.{put_fits}
use Rattle.fx_build.proofs.SafeLaws.{safe_then}
use Rattle.fx_build.proofs.SlotLaws.{AtSlot, keeps_out}
use Rattle.fx_build.proofs.TableLaws.{KeyedFits, flat_each_safe, regrouped_all}

-- ---- rows in order

module _ (p q : GroundRow) (come : Option ℤ → Option ℤ → Option ℤ) (read : Row → End (Option ℤ)) (make : Option ℤ → Option ℤ → Row → End (List Row))
    (reads : (row : Row) → RowFits p row → IsSafe (λ n. Unit {0}) (read row)) (makes : (before n : Option ℤ) (row : Row) → RowFits p row → IsSafe (AllByRecursion (RowFits q)) (make before n row)) where
  before_all : (before : Option ℤ) (rows : List Row) → AllByRecursion (RowFits p) rows → AllByRecursion (λ e. RowFits p e.1) (with_before come read before rows)
  before_all before [] h = tt
  before_all before (row ∷ rows) h = (h.0, before_all (come before (got (read row))) rows h.1)

  row_safe : (e : Option ℤ × Row) → RowFits p e.1 → IsSafe (AllByRecursion (RowFits q)) (ran_row come read make e)
  row_safe (before, row) h = safe_then (λ n. Unit {0}) (AllByRecursion (RowFits q)) (read row) (λ n. make before n row) (reads row h) (λ n _. makes before n row h)

  keyed_all : (key : Key) (rows : List Row) → HasRisingLabels key → AllByRecursion (RowFits q) rows → AllByRecursion (KeyedFits q) (keyed key rows)
  keyed_all key [] rising h = tt
  keyed_all key (row ∷ rows) rising h = ((rising, h.0), keyed_all key rows rising h.1)

  table_safe : (t : Table) → TableFits p t → IsSafe (AllByRecursion (KeyedFits q)) (ran_table come read make t)
  table_safe t h =
      safe_then (AllByRecursion (RowFits q)) (AllByRecursion (KeyedFits q)) (ran_rows come read make None t.rows) (λ rows. Gives (keyed t.key rows) 0)
      (flat_each_safe (λ e. RowFits p e.1) (RowFits q) (ran_row come read make) (with_before come read None t.rows) (before_all None t.rows h.1) row_safe) (λ rows all. keyed_all t.key rows h.0.0 all)

  pub ran_safe : (tables : List Table) → TablesFit p tables → IsSafe (TablesFit q) (ran come read make tables)
  ran_safe tables h =
      safe_then (AllByRecursion (KeyedFits q)) (TablesFit q) (ran_tables come read make tables) (λ rows. Gives (regrouped rows) 0)
      (flat_each_safe (TableFits p) (KeyedFits q) (ran_table come read make) tables h table_safe) (λ rows all. regrouped_all q rows all)

-- ---- numbers that are read and written

pub int_read : (r : GroundRow) (x : Label) → r x ≡ g_is g_int → (row : Row) → RowFits r row → IsSafe (λ n. Unit {0}) (int_of (get row x))
int_read r x has row fit = at (get row x) (subst (λ f. IsTrue (is_column_of f (get row x))) has (fit x))
  where
    at : (o : Option Scalar) → IsTrue (is_column_of (g_is g_int) o) → IsSafe (λ n. Unit {0}) (int_of o)
    at None h = tt
    at (Some scalar.Null) h = tt
    at (Some (scalar.Int n)) h = tt
    at (Some _) h = absurd (false≢true h)

time_read : (r : GroundRow) (x : Label) → r x ≡ g_is g_time → (row : Row) → RowFits r row → IsSafe (λ n. Unit {0}) (time_of (get row x))
time_read r x has row fit = at (get row x) (subst (λ f. IsTrue (is_column_of f (get row x))) has (fit x))
  where
    at : (o : Option Scalar) → IsTrue (is_column_of (g_is g_time) o) → IsSafe (λ n. Unit {0}) (time_of o)
    at None h = tt
    at (Some scalar.Null) h = tt
    at (Some (scalar.Time t)) h = tt
    at (Some _) h = absurd (false≢true h)

number_safe : (Q : Row → Type 0) (place : Place) (x : Label) (n : ℤ) (row : Row) → (in_64_bits n ≡ true → Q (insert row x (scalar.Int n))) → IsSafe (AllByRecursion Q) (with_number place x n row)
number_safe Q place x n row fits = at (in_64_bits n) fits
  where
    at : (c : Bool) → (c ≡ true → Q (insert row x (scalar.Int n))) → IsSafe (AllByRecursion Q) (if c then Gives (insert row x (scalar.Int n) ∷ []) 0 else Faults (record { kind = Overflow; place = place }) 0)
    at true is = (is refl, tt)
    at false is = tt

module _ (place : Place) (r : GroundRow) (x : Label) (has : r x ≡ g_is g_int) where
  less_safe : (before n : Option ℤ) (row : Row) → RowFits r row → IsSafe (AllByRecursion (RowFits r)) (less_last place x before n row)
  less_safe None n row fit = tt
  less_safe (Some last) None row fit = (fit, tt)
  less_safe (Some last) (Some n) row fit = number_safe (RowFits r) place x (n -ℤ last) row (λ e. again_fits r row x g_int (scalar.Int (n -ℤ last)) has fit e)

  sum_safe : (before n : Option ℤ) (row : Row) → RowFits r row → IsSafe (AllByRecursion (RowFits r)) (with_sum place x before n row)
  sum_safe before None row fit = (fit, tt)
  sum_safe before (Some n) row fit = number_safe (RowFits r) place x (sum_with before n) row (λ e. again_fits r row x g_int (scalar.Int (sum_with before n)) has fit e)

  pub differenced_safe : (tables : List Table) → TablesFit r tables → IsSafe (TablesFit r) (differenced place x tables)
  unfolding differenced
  differenced_safe tables fit = ran_safe r r latest (λ row. int_of (get row x)) (less_last place x) (int_read r x has) less_safe tables fit

  pub cumulated_safe : (tables : List Table) → TablesFit r tables → IsSafe (TablesFit r) (cumulated place x tables)
  unfolding cumulated
  cumulated_safe tables fit = ran_safe r r summed (λ row. int_of (get row x)) (with_sum place x) (int_read r x has) sum_safe tables fit

module _ (place : Place) (r : GroundRow) (x y : Label) (has : r x ≡ g_is g_time) where
  since_safe : (unit : ℤ) (before time : Option ℤ) (row : Row) → RowFits r row → IsSafe (AllByRecursion (RowFits (put y g_int r))) (since_last place unit y before time row)
  since_safe unit None time row fit = tt
  since_safe unit (Some last) None row fit = (put_fits r row y g_int scalar.Null fit refl, tt)
  since_safe unit (Some last) (Some time) row fit =
      number_safe (RowFits (put y g_int r)) place y (int_div (time -ℤ last) unit) row (λ e. put_fits r row y g_int (scalar.Int (int_div (time -ℤ last) unit)) fit e)

  pub passed_safe : (unit : Span) (tables : List Table) → TablesFit r tables → IsSafe (TablesFit (put y g_int r)) (passed place unit x y tables)
  unfolding passed
  passed_safe unit tables fit = at (is_unit unit)
    where
      at : (c : Bool) → IsSafe (TablesFit (put y g_int r)) (if c then ran latest (λ row. time_of (get row x)) (since_last place unit.nanos y) tables else Faults (record { kind = BadWindow; place = place }) 0)
      at true = ran_safe r (put y g_int r) latest (λ row. time_of (get row x)) (since_last place unit.nanos y) (time_read r x has) (since_safe unit.nanos) tables fit
      at false = tt

-- ---- durations

pub span_in_safe : (v : Val) → fits v g_span → IsSafe (λ d. Unit {0}) (span_in v)
span_in_safe v h = of_span v (λ y. IsSafe (λ d. Unit {0}) (span_in y)) h (λ d is. tt)

pub span_or_safe : (default : Span) (args : Slots) (x : Label) → keeps_at args x (typed g_span) (Unit {0}) → IsSafe (λ d. Unit {0}) (span_or default (look x args))
span_or_safe default args x h = at (look x args) (keeps_out args x (typed g_span) (Unit {0}) h)
  where
    at : (o : Option Val) → AtSlot o (typed g_span) (Unit {0}) → IsSafe (λ d. Unit {0}) (span_or default o)
    at None k = tt
    at (Some v) k = span_in_safe v k

-- ---- operators

module _ (test : Tests) (stored : Stored) where
  pub difference_safe : OperatorIsSafe test stored s.Difference
  unfolding IsLine
  difference_safe place w L needs input r args limit tss line =
      let x = line.0 in
      let q = line.2.0 in
      by_line test stored s.Difference w (from_tables q (codes "columns" ∷ []) [] [] (g_stream q)) _ _ _ refl
      (λ place args limit tss is have further. one_safe (TablesFit q) (put (codes "tables") (g_stream q) (parameters [])) (codes "tables") q (at_listed (differenced place) w) tss refl have
      (λ ts fit. word_safe (TablesFit q) (text_at w (codes "columns") (Some (codes "_value"))) x (λ column. differenced place column ts) line.1
      (differenced_safe place q x line.2.1 ts fit))) place L needs input r args limit tss line.2.2

  pub cumulative_safe : OperatorIsSafe test stored s.CumulativeSum
  unfolding IsLine
  cumulative_safe place w L needs input r args limit tss line =
      let x = line.0 in
      let q = line.2.0 in
      by_line test stored s.CumulativeSum w (from_tables q (codes "columns" ∷ []) [] [] (g_stream q)) _ _ _ refl
      (λ place args limit tss is have further. one_safe (TablesFit q) (put (codes "tables") (g_stream q) (parameters [])) (codes "tables") q (at_listed (cumulated place) w) tss refl have
      (λ ts fit. word_safe (TablesFit q) (text_at w (codes "columns") (Some (codes "_value"))) x (λ column. cumulated place column ts) line.1
      (cumulated_safe place q x line.2.1 ts fit))) place L needs input r args limit tss line.2.2

  pub elapsed_safe : OperatorIsSafe test stored s.Elapsed
  unfolding IsLine
  elapsed_safe place w L needs input r args limit tss line =
      let x = line.0 in
      let y = line.2.0 in
      let q = line.2.2.0 in
      let out = put y g_int q in
      by_line test stored s.Elapsed w (from_tables q (codes "timeColumn" ∷ codes "columnName" ∷ []) [] ((codes "unit", g_span) ∷ []) (g_stream out)) _ _ _ refl
      (λ place args limit tss is have further. one_safe (TablesFit out) (put (codes "tables") (g_stream q) (parameters [])) (codes "tables") q (passed_in w place args) tss refl have
      (λ ts fit. safe_then (λ d. Unit {0}) (TablesFit out) (span_or second (look (codes "unit") args)) _ (span_or_safe second args (codes "unit") (further (codes "unit")))
      (λ unit _. word_safe (TablesFit out) (text_at w (codes "timeColumn") (Some (codes "_time"))) x
      (λ time. found (text_at w (codes "columnName") (Some (codes "elapsed"))) >>= (λ name. passed place unit time name ts)) line.1
      (word_safe (TablesFit out) (text_at w (codes "columnName") (Some (codes "elapsed"))) y (λ name. passed place unit x name ts) line.2.1
      (passed_safe place q x y line.2.2.1 unit ts fit))))) place L needs input r args limit tss line.2.2.2
