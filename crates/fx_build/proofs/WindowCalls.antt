-- `window` of streams that fit is safe.
use Rattle.std.proofs.Common.{◌≡◌, refl, sym, subst, Bool, true, false, ◌&&◌, List, [], ◌∷◌, ℤ, pos, ◌+ℤ◌, Option, Some, None, arith}
use Rattle.std.specs.Prelude.{codes, if◌then◌else◌, int_le, int_lt, IsTrue}
use Rattle.std.specs.FinMap.{get, insert}
use Rattle.std.specs.Int.{int_max, int_min}
use Rattle.std.specs.List.{AllByRecursion, flat_map}
use Rattle.std.proofs.lemmas.Bool.{and_parts}
use Rattle.std.proofs.lemmas.Int.{ints}
use mathlib.Core.Bool.{false≢true}
use Rattle.fx_base.specs.declared.fault.FaultKind.TheVariants.{BadWindow}
use Rattle.fx_base.specs.declared.place.Place.{Place}
use Rattle.fx_time.specs.Windows.{last_started, last_stopped, window_start, window_stop}
use Rattle.fx_time.specs.declared.span.Span.{Span}
use Rattle.fx_value.specs.Ends.{Gives, Faults, and_then}
use Rattle.fx_value.specs.declared.scalar.Scalar.{Scalar}
use Rattle.fx_value.specs.declared.scalar.Scalar.TheVariants as scalar
use Rattle.fx_ops.specs.Whole.{in_64_bits}
use Rattle.fx_types.specs.Ground.{GroundRow, g_span, g_stream, g_time, g_is}
use Rattle.fx_types.specs.Term.{Label}
use Rattle.fx_data.proofs.Lawful.{all-append}
use Rattle.fx_data.specs.Regrouped.{regrouped}
use Rattle.fx_data.specs.Table.{HasRisingLabels}
use Rattle.fx_data.specs.declared.key.Key.{Key}
use Rattle.fx_data.specs.declared.table.Table.{Table}
use Rattle.fx_group.proofs.Unstuck.{each_of}
use Rattle.fx_group.specs.RangeRows.{set_row}
use Rattle.fx_window.specs.Clip.{lowered, raised}
use Rattle.fx_window.specs.Lengths.{are_lengths}
use Rattle.fx_window.specs.Numbers.{numbers}
use Rattle.fx_window.specs.Standing.{placed_by, placed_row, placed_rows, stand_by, stand_of, time_of}
use Rattle.fx_window.specs.Window.{copies, copy_in, windowed, windowed_table, windowed_tables}
use Rattle.fx_window.specs.Hidden.{Placed, Stand}
use Rattle.fx_schemes.specs.Builtins.{IsLine}
use Rattle.fx_schemes.specs.Line.{HasBounds, from_tables, parameters, put}
use Rattle.fx_meaning.specs.declared.stream.StreamFn.TheVariants as s
use Rattle.fx_meaning.specs.Ends.{◌>>=◌}
use Rattle.fx_meaning.specs.Forms.{span_in}
use Rattle.fx_meaning.specs.Meaning.{Tests}
use Rattle.fx_meaning.specs.Rows.{Row}
use Rattle.fx_meaning.specs.Value.{look}
use Rattle.fx_plan.specs.Operators.{in_windows, row_count, span_or}
use Rattle.fx_plan.specs.Sources.{Stored}
use Rattle.fx_build.specs.Rows.{RowFits, TableFits, TablesFit, is_column_of}
use Rattle.fx_build.specs.Safe.{IsSafe}
use Rattle.fx_build.proofs.ColumnCalls.{again_fits}
use Rattle.fx_build.proofs.OperatorCalls.{OperatorIsSafe, argument_safe, by_line, one_safe}
use Rattle.fx_build.proofs.RunningCalls.{span_in_safe, span_or_safe}
use Rattle.fx_build.proofs.SafeLaws.{safe_then}
use Rattle.fx_build.proofs.StopLaws.{KeyedStops, set_stops}
use Rattle.fx_build.proofs.TableLaws.{KeyedFits, flat_each_safe, regrouped_all}

-- ---- lists

pub each_made : {X Y : Type 0} (P : X → Type 0) (Q : Y → Type 0) (step : X → List Y) → ((x : X) → P x → AllByRecursion Q (step x)) → (xs : List X) → AllByRecursion P xs → AllByRecursion Q (flat_map step xs)
each_made P Q step makes [] h = tt
each_made P Q step makes (x ∷ xs) h = all-append Q (step x) (flat_map step xs) (makes x h.0) (each_made P Q step makes xs h.1)

pub every_made : {X Y : Type 0} (Q : Y → Type 0) (step : X → List Y) → ((x : X) → AllByRecursion Q (step x)) → (xs : List X) → AllByRecursion Q (flat_map step xs)
every_made Q step makes [] = tt
every_made Q step makes (x ∷ xs) = all-append Q (step x) (flat_map step xs) (makes x) (every_made Q step makes xs)

-- ---- rows in time

abbrev pub Within : Option ℤ → Type 0
Within None = Unit {0}
Within (Some t) = IsTrue (in_64_bits t)

abbrev pub IsStand : Option Stand → Type 0
IsStand None = Unit {0}
IsStand (Some at) = IsTrue (in_64_bits at.time) × IsTrue (in_64_bits at.low) × IsTrue (in_64_bits at.high)

-- a row that fits, with times in 64 bits
abbrev pub IsPlaced : GroundRow → Placed → Type 0
IsPlaced r p = RowFits r p.row × IsStand (Some p.at)

stand_is : (time low high : Option ℤ) → Within time → Within low → Within high → IsStand (stand_by time low high)
stand_is (Some time) (Some low) (Some high) h k l = (h, k, l)
stand_is None low high h k l = tt
stand_is (Some time) None high h k l = tt
stand_is (Some time) (Some low) None h k l = tt

time_read : (r : GroundRow) (x : Label) → r x ≡ g_is g_time → (row : Row) → RowFits r row → IsSafe Within (time_of (get row x))
time_read r x has row fit = at (get row x) (subst (λ f. IsTrue (is_column_of f (get row x))) has (fit x))
  where
    at : (o : Option Scalar) → IsTrue (is_column_of (g_is g_time) o) → IsSafe Within (time_of o)
    at None h = tt
    at (Some scalar.Null) h = tt
    at (Some (scalar.Time t)) h = h
    at (Some _) h = absurd (false≢true h)

module _ (r : GroundRow) (bounds : HasBounds r) where
  stand_safe : (row : Row) → RowFits r row → IsSafe IsStand (stand_of row)
  stand_safe row fit =
      safe_then Within IsStand (time_of (get row (codes "_time"))) _ (time_read r (codes "_time") bounds.0 row fit)
      (λ time h. safe_then Within IsStand (time_of (get row (codes "_start"))) _ (time_read r (codes "_start") bounds.1 row fit)
      (λ low k. safe_then Within IsStand (time_of (get row (codes "_stop"))) (λ high. Gives (stand_by time low high) 0) (time_read r (codes "_stop") bounds.2 row fit)
      (λ high l. stand_is time low high h k l)))

  placed_safe : (row : Row) → RowFits r row → IsSafe (AllByRecursion (IsPlaced r)) (placed_row row)
  placed_safe row fit = safe_then IsStand (AllByRecursion (IsPlaced r)) (stand_of row) (λ at. Gives (placed_by row at) 0) (stand_safe row fit) placed
    where
      placed : (at : Option Stand) → IsStand at → AllByRecursion (IsPlaced r) (placed_by row at)
      placed None h = tt
      placed (Some at) h = ((fit, h), tt)

  pub placed_rows_safe : (rows : List Row) → AllByRecursion (RowFits r) rows → IsSafe (AllByRecursion (IsPlaced r)) (placed_rows rows)
  placed_rows_safe rows fit = flat_each_safe (RowFits r) (IsPlaced r) placed_row rows fit placed_safe

  -- both bounds are set
  pub set_fits : (start stop : ℤ) (row : Row) → IsTrue (in_64_bits start) → IsTrue (in_64_bits stop) → RowFits r row
      → RowFits r (insert (insert row (codes "_start") (scalar.Time start)) (codes "_stop") (scalar.Time stop))
  set_fits start stop row first last fit =
      again_fits r (insert row (codes "_start") (scalar.Time start)) (codes "_stop") g_time (scalar.Time stop) bounds.2 (again_fits r row (codes "_start") g_time (scalar.Time start) bounds.1 fit first) last

-- ---- windows

-- what is clipped lies between times

raised_in : (low start t : ℤ) → IsTrue (in_64_bits low) → IsTrue (in_64_bits t) → IsTrue (int_le (int_max low start) t) → IsTrue (in_64_bits (int_max low start))
raised_in low start t h k l = grind (arith, ints)

lowered_in : (high stop t : ℤ) → IsTrue (in_64_bits high) → IsTrue (in_64_bits t) → IsTrue (int_lt t (int_min high stop)) → IsTrue (in_64_bits (int_min high stop))
lowered_in high stop t h k l = grind (arith, ints)

module _ (r : GroundRow) (bounds : HasBounds r) (every period : Span) where
  copy_fits : (key : Key) (p : Placed) → HasRisingLabels key → IsPlaced r p → (k : ℤ) → AllByRecursion (KeyedStops r) (copy_in every period key p k)
  copy_fits key p rising h k = at (int_le (raised every p.at.low k) p.at.time && int_lt p.at.time (lowered every period p.at.high k)) refl
    where
      at : (c : Bool) → c ≡ (int_le (raised every p.at.low k) p.at.time && int_lt p.at.time (lowered every period p.at.high k))
          → AllByRecursion (KeyedStops r) (if c then set_row (raised every p.at.low k) (lowered every period p.at.high k) key p.row ∷ [] else [])
      at true e =
          let both = and_parts (int_le (raised every p.at.low k) p.at.time) (int_lt p.at.time (lowered every period p.at.high k)) (sym e) in
          let stop = lowered_in p.at.high (window_stop every period k) p.at.time h.1.2 h.1.0 both.1 in (
            set_stops r (raised every p.at.low k) (lowered every period p.at.high k) key p.row rising stop (set_fits r bounds (raised every p.at.low k) (lowered every period p.at.high k) p.row (raised_in p.at.low (window_start every k) p.at.time h.1.1 h.1.0 both.0) stop h.0),
            tt,
          )
      at false e = tt

  pub copies_stop : (key : Key) (p : Placed) → HasRisingLabels key → IsPlaced r p → AllByRecursion (KeyedStops r) (copies every period key p)
  copies_stop key p rising h = every_made (KeyedStops r) (copy_in every period key p) (copy_fits key p rising h) (numbers (last_stopped every period p.at.time +ℤ pos 1) (last_started every p.at.time +ℤ pos 1))

  copies_fit : (key : Key) (ps : List Placed) → HasRisingLabels key → AllByRecursion (IsPlaced r) ps → AllByRecursion (KeyedFits r) (flat_map (copies every period key) ps)
  copies_fit key ps rising h =
      each_made (IsPlaced r) (KeyedFits r) (copies every period key)
      (λ p is. each_of (KeyedStops r) (KeyedFits r) (λ x k. k.0) (copies every period key p) (copies_stop key p rising is)) ps h

  table_safe : (t : Table) → TableFits r t → IsSafe (AllByRecursion (KeyedFits r)) (windowed_table every period t)
  table_safe t fit =
      safe_then (AllByRecursion (IsPlaced r)) (AllByRecursion (KeyedFits r)) (placed_rows t.rows) (λ ps. Gives (flat_map (copies every period t.key) ps) 0) (placed_rows_safe r bounds t.rows fit.1)
      (λ ps h. copies_fit t.key ps fit.0.0 h)

  pub windowed_safe : (place : Place) (tables : List Table) → TablesFit r tables → IsSafe (TablesFit r) (windowed place every period tables)
  unfolding windowed
  windowed_safe place tables fit = at (are_lengths every period)
    where
      at : (c : Bool) → IsSafe (TablesFit r) (if c then and_then (windowed_tables every period tables) (λ rows. Gives (regrouped rows) 0) else Faults (record { kind = BadWindow; place = place }) 0)
      at true =
          safe_then (AllByRecursion (KeyedFits r)) (TablesFit r) (windowed_tables every period tables) (λ rows. Gives (regrouped rows) 0)
          (flat_each_safe (TableFits r) (KeyedFits r) (windowed_table every period) tables fit table_safe) (λ rows all. regrouped_all r rows all)
      at false = tt

pub window_safe : (test : Tests) (stored : Stored) → OperatorIsSafe test stored s.Window
unfolding IsLine
window_safe test stored place w L needs input r args limit tss line =
    let q = line.0 in
    by_line test stored s.Window w (from_tables q [] ((codes "every", g_span) ∷ []) ((codes "period", g_span) ∷ []) (g_stream q)) _ _ _ refl
    (λ place args limit tss is have further. one_safe (TablesFit q) (put (codes "tables") (g_stream q) (parameters ((codes "every", g_span) ∷ []))) (codes "tables") q (in_windows place args) tss refl have
    (λ ts fit. argument_safe (TablesFit q) g_span args (codes "every")
    (λ v. span_in v >>= (λ every. span_or every (look (codes "period") args) >>= (λ period. windowed place every period ts >>= (λ made. Gives made (row_count made))))) (further (codes "every"))
    (λ v h. safe_then (λ d. Unit {0}) (TablesFit q) (span_in v) _ (span_in_safe v h)
    (λ every _. safe_then (λ d. Unit {0}) (TablesFit q) (span_or every (look (codes "period") args)) _ (span_or_safe every args (codes "period") (further (codes "period")))
    (λ period _. safe_then (TablesFit q) (TablesFit q) (windowed place every period ts) (λ made. Gives made (row_count made)) (windowed_safe q line.1 every period place ts fit) (λ made fit. fit)))))) place L needs input r args limit tss line.2
