-- Tables that are cut into windows and put together again.
use Rattle.std.proofs.Common.{◌≡◌, ◌<◌, refl, sym, ap, subst, inl, inr, Bool, true, false, List, [], ◌∷◌, map, ◌+◌, ℤ, pos, ◌+ℤ◌, ◌-ℤ◌, unsigned_abs, FitsSigned, w64, Option, Some, None, arith}
use Rattle.std.specs.Prelude.{◌<ℤ◌, ◌≤ℤ◌, ◌↔◌, codes, if◌then◌else◌, int_lt, IsTrue}
use Rattle.std.specs.FinMap as fin
use Rattle.std.specs.FinMap.{insert}
use Rattle.std.specs.FinMap.Entries.{find}
use Rattle.std.specs.Int.{int_div_euclid, int_max, int_min}
use Rattle.std.specs.List.{AllByRecursion, flat_map}
use Rattle.std.proofs.lemmas.Int.{ints}
use Rattle.fx_base.specs.Text.{text_cmp}
use Rattle.fx_base.specs.declared.fault.FaultKind.TheVariants.{BadWindow}
use Rattle.fx_base.specs.declared.place.Place.{Place}
use Rattle.fx_time.proofs.MonthLemmas.{clock_month}
use Rattle.fx_time.proofs.TestLemmas.{int_tells}
use Rattle.fx_time.proofs.WindowLemmas.{some_nanos, started_months, started_nanos, starts_after, stopped_months, stopped_nanos}
use Rattle.fx_time.specs.Windows.{IsWindow, has_months, last_started, last_stopped, month_at, window_start, window_stop}
use Rattle.fx_time.specs.declared.span.Span.{Span}
use Rattle.fx_value.specs.Ends.{End, Gives, Faults, and_then}
use Rattle.fx_value.specs.Works.{flat_each}
use Rattle.fx_value.specs.declared.scalar.Scalar.{Scalar}
use Rattle.fx_value.specs.declared.scalar.Scalar.TheVariants as scalar
use Rattle.fx_line.proofs.Lawful.{fits_int}
use Rattle.fx_ops.specs.Whole.{in_64_bits}
use Rattle.fx_types.specs.Ground.{GroundRow, g_time, g_is}
use Rattle.fx_data.specs.Regrouped.{regrouped}
use Rattle.fx_data.specs.Table.{HasRisingLabels}
use Rattle.fx_data.specs.declared.key.Key.{Key}
use Rattle.fx_data.specs.declared.table.Table.{Table}
use Rattle.fx_group.specs.RangeRows.{bounded_key}
use Rattle.fx_window.proofs.Numbers.{all_numbers}
use Rattle.fx_window.specs.Aggregated.{aggregated_cut, window_aggregated}
use Rattle.fx_window.specs.Clip.{lowered, raised}
use Rattle.fx_window.specs.Cut.{bounds_of, cut_by, cut_of, cut_size, widest, window_key, windows_between, windows_of, within}
use Rattle.fx_window.specs.Hidden.{Bounds, Placed}
use Rattle.fx_window.specs.Lengths.{is_length}
use Rattle.fx_window.specs.Numbers.{numbers}
use Rattle.fx_window.specs.Standing.{placed_rows}
use Rattle.fx_window.specs.Uncut.{stop_by, uncut_of, uncut_row, uncut_window, value_of}
use Rattle.fx_window.specs.Window.{copies}
use Rattle.fx_window.specs.declared.cutting.CutTable.{CutTable}
use Rattle.fx_schemes.specs.Line.{HasBounds, put}
use Rattle.fx_meaning.specs.Rows.{Row}
use Rattle.fx_plan.specs.Operators.{window_count, windows_counted}
use Rattle.fx_build.specs.Rows.{KeyFits, RowFits, TableFits, TablesFit}
use Rattle.fx_build.specs.Safe.{IsSafe}
use Rattle.fx_build.proofs.ColumnCalls.{again_fits}
use Rattle.fx_build.proofs.KeyLaws.{again_key}
use Rattle.fx_build.proofs.RowLaws.{put_fits}
use Rattle.fx_build.proofs.SafeLaws.{safe_then}
use Rattle.fx_build.proofs.StopLaws.{IsStop, KeyedStops, WindowFits, WindowKeyFits, bounded_rises, bounded_stops, regrouped_with_stops, stop_found}
use Rattle.fx_build.proofs.TableLaws.{KeyedFits, flat_each_safe, regrouped_all}
use Rattle.fx_build.proofs.WindowCalls.{IsPlaced, copies_stop, each_made, placed_rows_safe}

-- ---- the numbers of windows

fits_64 : (n : ℤ) → IsTrue (in_64_bits n) → FitsSigned w64 n
fits_64 n h = fits_int n h

pub length_only : (span : Span) → is_length span ≡ true → IsWindow span
length_only span e = grind (arith, ints)

module _ (every : Span) (window : IsWindow every) (k : ℤ) where
  started : (t : ℤ) → IsTrue (in_64_bits t) → (t <ℤ window_start every k) ↔ (last_started every t <ℤ k)
  started t is = at (has_months every) refl
    where
      months : true ≡ has_months every → (t <ℤ window_start every k) ↔ (last_started every t <ℤ k)
      months e =
          let some : 0 < unsigned_abs every.months = omega (arith, ints, e) in
          let same : every.months ≡ pos (unsigned_abs every.months) = omega (arith, ints, e) in
          subst (λ z. (t <ℤ window_start every k) ↔ (z <ℤ k)) (ap (λ c. if c then int_div_euclid (month_at t) every.months else int_div_euclid t every.nanos) e)
          (started_months every (unsigned_abs every.months) some t (month_at t) k (sym e) same (λ j. starts_after t (month_at t) j (clock_month t (fits_64 t is))))

      nanos : false ≡ has_months every → (t <ℤ window_start every k) ↔ (last_started every t <ℤ k)
      nanos e =
          let above = some_nanos every window (sym e) in
          let some : 0 < unsigned_abs every.nanos = omega (arith, ints, above) in
          let same : every.nanos ≡ pos (unsigned_abs every.nanos) = omega (arith, ints, above) in
          subst (λ z. (t <ℤ window_start every k) ↔ (z <ℤ k)) (ap (λ c. if c then int_div_euclid (month_at t) every.months else int_div_euclid t every.nanos) e)
          (started_nanos every (unsigned_abs every.nanos) some t k (sym e) same)

      at : (c : Bool) → c ≡ has_months every → (t <ℤ window_start every k) ↔ (last_started every t <ℤ k)
      at true e = months e
      at false e = nanos e

  stopped : (t : ℤ) → IsTrue (in_64_bits t) → (t <ℤ window_stop every every k) ↔ (last_stopped every every t <ℤ k)
  stopped t is = at (has_months every) refl
    where
      last : Bool → ℤ
      last c =
          if c then int_div_euclid (month_at t -ℤ every.months) every.months
          else (if c then int_div_euclid (month_at (t -ℤ every.nanos)) every.months else int_div_euclid (t -ℤ every.nanos) every.nanos)

      months : true ≡ has_months every → (t <ℤ window_stop every every k) ↔ (last (has_months every) <ℤ k)
      months e =
          let some : 0 < unsigned_abs every.months = omega (arith, ints, e) in
          let same : every.months ≡ pos (unsigned_abs every.months) = omega (arith, ints, e) in
          subst (λ z. (t <ℤ window_stop every every k) ↔ (z <ℤ k)) (ap last e)
          (stopped_months every (unsigned_abs every.months) some every t (month_at t) k (sym e) same (λ j. starts_after t (month_at t) j (clock_month t (fits_64 t is))))

      nanos : false ≡ has_months every → (t <ℤ window_stop every every k) ↔ (last (has_months every) <ℤ k)
      nanos e =
          let above = some_nanos every window (sym e) in
          let some : 0 < unsigned_abs every.nanos = omega (arith, ints, above) in
          let same : every.nanos ≡ pos (unsigned_abs every.nanos) = omega (arith, ints, above) in
          subst (λ z. (t <ℤ window_stop every every k) ↔ (z <ℤ k)) (ap last e)
          (stopped_nanos every every t (int_div_euclid (t -ℤ every.nanos) every.nanos) k (sym e) (started_nanos every (unsigned_abs every.nanos) some (t -ℤ every.nanos) k (sym e) same))

      at : (c : Bool) → c ≡ has_months every → (t <ℤ window_stop every every k) ↔ (last (has_months every) <ℤ k)
      at true e = months e
      at false e = nanos e

-- ---- bounds

abbrev AreBounds : Bounds → Type 0
AreBounds b = IsTrue (in_64_bits b.start) × IsTrue (in_64_bits b.stop)

abbrev AreBoundsIf : Option Bounds → Type 0
AreBoundsIf None = Unit {0}
AreBoundsIf (Some b) = AreBounds b

min_in : (a b : ℤ) → IsTrue (in_64_bits a) → IsTrue (in_64_bits b) → IsTrue (in_64_bits (int_min a b))
min_in a b h k = grind (arith, ints)

max_in : (a b : ℤ) → IsTrue (in_64_bits a) → IsTrue (in_64_bits b) → IsTrue (in_64_bits (int_max a b))
max_in a b h k = grind (arith, ints)

raised_in : (low start stop : ℤ) → IsTrue (in_64_bits low) → IsTrue (in_64_bits stop) → start ≤ℤ (stop -ℤ pos 1) → IsTrue (in_64_bits (int_max low start))
raised_in low start stop h k l = grind (arith, ints)

lowered_in : (high low stop : ℤ) → IsTrue (in_64_bits high) → IsTrue (in_64_bits low) → low <ℤ stop → IsTrue (in_64_bits (int_min high stop))
lowered_in high low stop h k l = grind (arith, ints)

before_in : (start stop : ℤ) → IsTrue (in_64_bits start) → IsTrue (in_64_bits stop) → IsTrue (int_lt start stop) → IsTrue (in_64_bits (stop -ℤ pos 1))
before_in start stop h k l = grind (arith, ints)

module _ (r : GroundRow) where
  widest_in : (ps : List Placed) → AllByRecursion (IsPlaced r) ps → (b : Bounds) → AreBounds b → AreBounds (widest b ps)
  widest_in [] h b is = is
  widest_in (p ∷ ps) h b is = widest_in ps h.1 _ (min_in b.start p.at.low is.0 h.0.1.1, max_in b.stop p.at.high is.1 h.0.1.2)

  bounds_in : (ps : List Placed) → AllByRecursion (IsPlaced r) ps → AreBoundsIf (bounds_of ps)
  bounds_in [] h = tt
  bounds_in (p ∷ ps) h = widest_in ps h.1 _ (h.0.1.1, h.0.1.2)

-- ---- windows

module _ (every : Span) (window : IsWindow every) (b : Bounds) (is : AreBounds b) where
  abbrev IsNear : ℤ → Type 0
  IsNear k = IsTrue (in_64_bits (raised every b.start k)) × IsTrue (in_64_bits (lowered every every b.stop k))

  near : IsTrue (int_lt b.start b.stop) → (k : ℤ) → (last_stopped every every b.start +ℤ pos 1) ≤ℤ k → k <ℤ (last_started every (b.stop -ℤ pos 1) +ℤ pos 1) → IsNear k
  near some k from to =
      let after : b.start <ℤ window_stop every every k = (stopped every window k b.start is.0).1 (omega (arith, ints)) in
      let before : window_start every k ≤ℤ (b.stop -ℤ pos 1) = elim (int_tells (b.stop -ℤ pos 1) (window_start every k)) [
        | inl past ↦ let gone = (started every window k (b.stop -ℤ pos 1) (before_in b.start b.stop is.0 is.1 some)).0 past in absurd (omega (arith, ints))
        | inr begun ↦ begun
      ] in
      (raised_in b.start (window_start every k) b.stop is.0 is.1 before, lowered_in b.stop b.start (window_stop every every k) is.1 is.0 after)

  between_near : AllByRecursion IsNear (windows_between every b)
  between_near = at (int_lt b.start b.stop) refl
    where
      at : (c : Bool) → c ≡ int_lt b.start b.stop
          → AllByRecursion IsNear (if c then numbers (last_stopped every every b.start +ℤ pos 1) (last_started every (b.stop -ℤ pos 1) +ℤ pos 1) else [])
      at true e = all_numbers IsNear (last_stopped every every b.start +ℤ pos 1) (last_started every (b.stop -ℤ pos 1) +ℤ pos 1) (λ k from to. near (sym e) k from to)
      at false e = tt

module _ (r : GroundRow) (bounds : HasBounds r) (every : Span) (window : IsWindow every) where
  key_in : (start stop : ℤ) (key : Key) → IsTrue (in_64_bits start) → IsTrue (in_64_bits stop) → KeyFits r key → WindowKeyFits r (bounded_key start stop key)
  key_in start stop key first last h = (
    again_key r (codes "_stop") g_time (scalar.Time stop) bounds.2 last _ (again_key r (codes "_start") g_time (scalar.Time start) bounds.1 first key h),
    bounded_stops start stop key h.0 last,
  )

  keys_in : (b : Bounds) (key : Key) → KeyFits r key → (ks : List ℤ) → AllByRecursion (λ k. IsTrue (in_64_bits (raised every b.start k)) × IsTrue (in_64_bits (lowered every every b.stop k))) ks
      → AllByRecursion (WindowKeyFits r) (map (window_key every b key) ks)
  keys_in b key h [] near = tt
  keys_in b key h (k ∷ ks) near = (key_in (raised every b.start k) (lowered every every b.stop k) key near.0.0 near.0.1 h, keys_in b key h ks near.1)

  windows_fit : (all : Bool) (b : Bounds) (key : Key) (ps : List Placed) → AreBounds b → KeyFits r key → AllByRecursion (IsPlaced r) ps → AllByRecursion (WindowFits r) (windows_of every all b key ps)
  windows_fit all b key ps is h placed =
      regrouped_with_stops r (flat_map (λ p. copies every every key (within b p)) ps) (if all then map (window_key every b key) (windows_between every b) else [])
      (each_made (IsPlaced r) (KeyedStops r) (λ p. copies every every key (within b p)) (λ p k. copies_stop r bounds every every key (within b p) h.0 (k.0, (k.1.0, is.0, is.1))) ps placed)
      (empties all)
    where
      empties : (c : Bool) → AllByRecursion (WindowKeyFits r) (if c then map (window_key every b key) (windows_between every b) else [])
      empties true = keys_in b key h (windows_between every b) (between_near every window b is)
      empties false = tt

  abbrev pub CutFits : CutTable → Type 0
  CutFits parts = IsTrue (in_64_bits parts.start) × IsTrue (in_64_bits parts.stop) × AllByRecursion (WindowFits r) parts.windows

  cut_fits : (all : Bool) (key : Key) (ps : List Placed) (o : Option Bounds) → AreBoundsIf o → KeyFits r key → AllByRecursion (IsPlaced r) ps → CutFits (cut_by every all key ps o)
  cut_fits all key ps None is h placed = (refl, refl, tt)
  cut_fits all key ps (Some b) is h placed = (is.0, is.1, windows_fit all b key ps is h placed)

  pub cut_safe : (all : Bool) (t : Table) → TableFits r t → IsSafe CutFits (cut_of every all t)
  unfolding cut_of
  cut_safe all t fit =
      safe_then (AllByRecursion (IsPlaced r)) CutFits (placed_rows t.rows) (λ ps. Gives (cut_by every all t.key ps (bounds_of ps)) 0) (placed_rows_safe r bounds t.rows fit.1)
      (λ ps placed. cut_fits all t.key ps (bounds_of ps) (bounds_in r ps placed) fit.0 placed)

  window_count_safe : (all : Bool) (tables : List Table) → TablesFit r tables → IsSafe (λ n. Unit {0}) (window_count every all tables)
  window_count_safe all [] fit = tt
  window_count_safe all (t ∷ tables) fit =
      safe_then (λ n. Unit {0}) (λ n. Unit {0}) (cut_size every all t) (λ n. and_then (window_count every all tables) (λ m. Gives (n + m) 0))
      (safe_then CutFits (λ n. Unit {0}) (cut_of every all t) _ (cut_safe all t fit.0) (λ parts h. tt))
      (λ n _. safe_then (λ n. Unit {0}) (λ n. Unit {0}) (window_count every all tables) (λ m. Gives (n + m) 0) (window_count_safe all tables fit.1) (λ m _. tt))

  pub counted_safe : (all : Bool) (tables : List Table) → TablesFit r tables → IsSafe (λ n. Unit {0}) (windows_counted every all tables)
  counted_safe all tables fit = safe_then (λ n. Unit {0}) (λ n. Unit {0}) (window_count every all tables) (λ n. Gives n n) (window_count_safe all tables fit) (λ n _. tt)

-- ---- windows put together again

module _ (q : GroundRow) (start : q (codes "_start") ≡ g_is g_time) (stop : q (codes "_stop") ≡ g_is g_time) where
  abbrev timed : GroundRow
  timed = put (codes "_time") g_time q

  row_fits : (low high last : ℤ) (key : Key) (row : Row) → HasRisingLabels key → IsTrue (in_64_bits low) → IsTrue (in_64_bits high) → IsTrue (in_64_bits last) → RowFits q row → KeyedFits timed (uncut_row low high key last row)
  row_fits low high last key row rising is_low is_high is_last fit = (
    bounded_rises low high key rising,
    again_fits timed (insert (insert row (codes "_time") (scalar.Time last)) (codes "_start") (scalar.Time low)) (codes "_stop") g_time (scalar.Time high) stop
        (again_fits timed (insert row (codes "_time") (scalar.Time last)) (codes "_start") g_time (scalar.Time low) start (put_fits q row (codes "_time") g_time (scalar.Time last) fit is_last) is_low) is_high,
  )

  rows_fit : (low high last : ℤ) (key : Key) (rows : List Row) → HasRisingLabels key → IsTrue (in_64_bits low) → IsTrue (in_64_bits high) → IsTrue (in_64_bits last) → AllByRecursion (RowFits q) rows
      → AllByRecursion (KeyedFits timed) (map (uncut_row low high key last) rows)
  rows_fit low high last key [] rising a b c h = tt
  rows_fit low high last key (row ∷ rows) rising a b c h = (row_fits low high last key row rising a b c h.0, rows_fit low high last key rows rising a b c h.1)

  fitting_rows : (rows : List Row) → AllByRecursion (λ row. RowFits q row × IsStop (fin.get row (codes "_stop"))) rows → AllByRecursion (RowFits q) rows
  fitting_rows [] h = tt
  fitting_rows (row ∷ rows) h = (h.0.0, fitting_rows rows h.1)

  stop_safe : (o : Option Scalar) → IsStop o → IsSafe (λ t. IsTrue (in_64_bits t)) (stop_by o)
  stop_safe (Some (scalar.Time t)) h = h
  stop_safe None h = absurd h
  stop_safe (Some _) h = absurd h

  uncut_safe : (low high : ℤ) (t : Table) → IsTrue (in_64_bits low) → IsTrue (in_64_bits high) → WindowFits q t → IsSafe (AllByRecursion (KeyedFits timed)) (uncut_window low high t)
  uncut_safe low high t a b fit =
      safe_then (λ t. IsTrue (in_64_bits t)) (AllByRecursion (KeyedFits timed)) (stop_by (find text_cmp (codes "_stop") (map value_of t.key.entries))) (λ last. Gives (map (uncut_row low high t.key last) t.rows) 0)
      (stop_safe (find text_cmp (codes "_stop") (map value_of t.key.entries)) (stop_found t.key.entries fit.0.1.0 fit.0.1.1))
      (λ last c. rows_fit low high last t.key t.rows fit.0.0.0 a b c (fitting_rows t.rows fit.1))

  uncut_all_safe : (parts : CutTable) → IsTrue (in_64_bits parts.start) → IsTrue (in_64_bits parts.stop) → AllByRecursion (WindowFits q) parts.windows → IsSafe (AllByRecursion (KeyedFits timed)) (uncut_of parts)
  unfolding uncut_of
  uncut_all_safe parts a b fit = flat_each_safe (WindowFits q) (KeyedFits timed) (uncut_window parts.start parts.stop) parts.windows fit (λ t h. uncut_safe parts.start parts.stop t a b h)

  -- of an aggregate that is safe on windows
  pub windows_safe : (r : GroundRow) (bounds : HasBounds r) (every : Span) → IsWindow every → (place : Place) (aggregate : List Table → End (List Table)) (all : Bool)
      → ((windows : List Table) → AllByRecursion (WindowFits r) windows → IsSafe (AllByRecursion (WindowFits q)) (aggregate windows)) → (tables : List Table) → TablesFit r tables
      → IsSafe (TablesFit timed) (window_aggregated place aggregate every all tables)
  unfolding window_aggregated
  windows_safe r bounds every window place aggregate all safe tables fit = at (is_length every)
    where
      cut : (t : Table) → TableFits r t → IsSafe (AllByRecursion (KeyedFits timed)) (aggregated_cut aggregate every all t)
      cut t h =
          safe_then (CutFits r bounds every window) (AllByRecursion (KeyedFits timed)) (cut_of every all t) _ (cut_safe r bounds every window all t h)
          (λ parts k. safe_then (AllByRecursion (WindowFits q)) (AllByRecursion (KeyedFits timed)) (aggregate parts.windows) _ (safe parts.windows k.2)
          (λ made l. uncut_all_safe (record { start = parts.start; stop = parts.stop; windows = made }) k.0 k.1 l))

      at : (c : Bool) → IsSafe (TablesFit timed) (if c then and_then (flat_each (aggregated_cut aggregate every all) tables) (λ rows. Gives (regrouped rows) 0) else Faults (record { kind = BadWindow; place = place }) 0)
      at true =
          safe_then (AllByRecursion (KeyedFits timed)) (TablesFit timed) (flat_each (aggregated_cut aggregate every all) tables) (λ rows. Gives (regrouped rows) 0)
          (flat_each_safe (TableFits r) (KeyedFits timed) (aggregated_cut aggregate every all) tables fit cut) (λ rows all. regrouped_all timed rows all)
      at false = tt
