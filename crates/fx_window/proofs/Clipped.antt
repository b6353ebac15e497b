-- The windows of a row between its bounds.
use Rattle.std.proofs.Common.{◌≡◌, ◌↔◌, Bool, true, false, List, [], ◌∷◌, ℤ, pos, ◌+ℤ◌, ◌≤ℤ◌, FitsSigned, w64, sym, ap, ◌∙◌, arith}
use Rattle.std.proofs.lemmas.Int.{ints}
use Rattle.std.specs.List.{flat_map}
use Rattle.std.specs.Prelude.{◌<ℤ◌, ◌&&◌, int_le, int_lt, if◌then◌else◌}
use Rattle.std.specs.Int.{int_min, int_max}
use Rattle.fx_time.specs.Windows.{window_start, window_stop, last_started, last_stopped, Holds, IsWindowPair}
use Rattle.fx_time.specs.declared.span.Span.{Span}
use Rattle.fx_time.proofs.WindowLemmas.{holds_near}
use Rattle.fx_data.specs.declared.key.Key.{Key}
use Rattle.fx_data.specs.declared.keyed_row.KeyedRow.{KeyedRow}
use Rattle.fx_group.specs.Answer.{Row}
use Rattle.fx_group.specs.RangeRows.{set_row}
use Rattle.fx_window.specs.Clip.{raised, lowered}
use Rattle.fx_window.specs.Numbers.{numbers}
use Rattle.fx_window.specs.Reaches.{AreApart, AreNear, copy_at, copies_of}
use Rattle.fx_window.specs.Window.{copy_in, copies}
use Rattle.fx_window.specs.declared.reach.Reach.{Reach}
use Rattle.fx_window.specs.declared.standing.Placed.{Placed}
use Rattle.fx_window.specs.declared.standing.Stand.{Stand}
use Rattle.fx_window.proofs.Numbers.{all_numbers, flat_map_one, flat_map_none}
use Rattle.fx_window.proofs.Windows.{starts_lt, starts_le, stops_lt, stops_le}

-- a time between bounds lies in what is left of a window that holds it
clipped_holds : (low high start stop t : ℤ) → low ≤ℤ t → t <ℤ high → start ≤ℤ t → t <ℤ stop → (int_le (int_max low start) t && int_lt t (int_min high stop)) ≡ true
clipped_holds low high start stop t a b c d = grind (arith, ints)

-- and one that lies before them or behind them in nothing that is left
before_none : (low start t stop : ℤ) → t <ℤ low → (int_le (int_max low start) t && int_lt t stop) ≡ false
before_none low start t stop h = grind (arith, ints)

behind_none : (high stop t start : ℤ) → high ≤ℤ t → (int_le start t && int_lt t (int_min high stop)) ≡ false
behind_none high stop t start h = grind (arith, ints)

abbrev copy_if : ℤ → ℤ → Key → Placed → Bool → List KeyedRow
copy_if start stop key p there = if there then set_row start stop key p.row ∷ [] else []

module _ (every period : Span) (at : Stand) (key : Key) (row : Row) where
  abbrev placed : Placed
  placed = record { at = at; row = row }

  abbrev all : List ℤ
  all = numbers (last_stopped every period at.time +ℤ pos 1) (last_started every at.time +ℤ pos 1)

  copy_one : (first next k : ℤ) → at.low ≤ℤ at.time → at.time <ℤ at.high → Holds every period at.time k
      → copy_in every period key placed k ≡ copy_at every period (record { first = first; next = next; low = at.low; high = at.high }) key row k ∷ []
  copy_one first next k low high holds =
      ap (copy_if (raised every at.low k) (lowered every period at.high k) key placed)
      (clipped_holds at.low at.high (window_start every k) (window_stop every period k) at.time low high holds.0 holds.1)

  -- between its bounds a row goes to each of the windows that hold its time
  pub copies_reach : (first next : ℤ) → first ≡ last_stopped every period at.time +ℤ pos 1 → next ≡ last_started every at.time +ℤ pos 1
      → ((k : ℤ) → ((first ≤ℤ k) × (k <ℤ next)) ↔ Holds every period at.time k) → at.low ≤ℤ at.time → at.time <ℤ at.high
      → copies every period key placed ≡ copies_of every period (record { first = first; next = next; low = at.low; high = at.high }) key row
  copies_reach first next is_first is_next holds low high =
      (λ i. flat_map (copy_in every period key placed) (numbers (sym is_first i) (sym is_next i)))
      ∙ flat_map_one (copy_in every period key placed) (copy_at every period (record { first = first; next = next; low = at.low; high = at.high }) key row) (numbers first next)
      (all_numbers (λ k. copy_in every period key placed k ≡ copy_at every period (record { first = first; next = next; low = at.low; high = at.high }) key row k ∷ []) first next
      (λ k from to. copy_one first next k low high ((holds k).0 (from, to))))

  pub copies_before : at.time <ℤ at.low → copies every period key placed ≡ []
  copies_before before =
      flat_map_none (copy_in every period key placed) all
      (all_numbers (λ k. copy_in every period key placed k ≡ []) (last_stopped every period at.time +ℤ pos 1) (last_started every at.time +ℤ pos 1)
      (λ k from to. ap (copy_if (raised every at.low k) (lowered every period at.high k) key placed)
      (before_none at.low (window_start every k) at.time (lowered every period at.high k) before)))

  pub copies_behind : at.high ≤ℤ at.time → copies every period key placed ≡ []
  copies_behind behind =
      flat_map_none (copy_in every period key placed) all
      (all_numbers (λ k. copy_in every period key placed k ≡ []) (last_stopped every period at.time +ℤ pos 1) (last_started every at.time +ℤ pos 1)
      (λ k from to. ap (copy_if (raised every at.low k) (lowered every period at.high k) key placed)
      (behind_none at.high (window_stop every period k) at.time (raised every at.low k) behind)))

-- windows that hold a time in 64 bits are near it
pub reach_near : (every period : Span) (t low high first next : ℤ) → FitsSigned w64 t → ((k : ℤ) → ((first ≤ℤ k) × (k <ℤ next)) ↔ Holds every period t k)
    → AreNear every period (record { first = first; next = next; low = low; high = high })
reach_near every period t low high first next fits holds k from to = holds_near every period t k fits ((holds k).0 (from, to))

-- ---- windows that are clipped to different bounds

raised_apart : (low a b : ℤ) → low <ℤ b → a <ℤ b → int_max low a ≡ int_max low b → ⊥
raised_apart low a b over rise same = grind (arith, ints)

lowered_apart : (high a b : ℤ) → a <ℤ high → a <ℤ b → int_min high a ≡ int_min high b → ⊥
lowered_apart high a b under rise same = grind (arith, ints)

module _ (every period : Span) (pair : IsWindowPair every period) (r : Reach) where
  -- one window at most
  pub apart_alone : r.next ≤ℤ (r.first +ℤ pos 1) → AreApart every period r
  apart_alone short j k from rise to same_start same_stop = absurd (omega (arith, ints))

  -- all but the first start behind the lower bound
  pub apart_starts : (second : ℤ) → second ≡ r.first +ℤ pos 1 → r.low <ℤ window_start every second → AreApart every period r
  apart_starts second is over j k from rise to same_start same_stop =
      let up = starts_le every pair.0 second k (omega (arith, ints)) in
      let lt = starts_lt every pair.0 j k rise in
      raised_apart r.low (window_start every j) (window_start every k) (omega (arith, ints)) lt same_start

  -- all but the last stop before the upper bound
  pub apart_stops : (before : ℤ) → before +ℤ pos 2 ≡ r.next → window_stop every period before <ℤ r.high → AreApart every period r
  apart_stops before is under j k from rise to same_start same_stop =
      let up = stops_le every period pair j before (omega (arith, ints)) in
      let lt = stops_lt every period pair j k rise in
      lowered_apart r.high (window_stop every period j) (window_stop every period k) (omega (arith, ints)) lt same_stop
