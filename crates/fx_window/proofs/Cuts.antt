-- A table cut into windows, as the code does it.
use Rattle.std.proofs.Common.{◌≡◌, Bool, List, [], ◌∷◌, ◌++◌, map, ℤ, pos, ◌+ℤ◌, ◌≤ℤ◌, refl, sym, ap, ◌∙◌}
use Rattle.std.specs.Prelude.{◌<ℤ◌, ◌-ℤ◌, None, Some, if◌then◌else◌}
use Rattle.std.specs.FinMap as fin
use Rattle.std.specs.List.{flat_map, AllByRecursion}
use Rattle.fx_time.specs.Windows.{last_started, last_stopped}
use Rattle.fx_time.specs.declared.span.Span.{Span}
use Rattle.fx_time.proofs.TestLemmas.{lt_holds, lt_fails}
use Rattle.fx_data.specs.Gathered.{table_of, gathered}
use Rattle.fx_data.specs.Regrouped.{alone, bare, all_joined}
use Rattle.fx_data.specs.Table.{HasKey}
use Rattle.fx_data.specs.declared.key.Key.{Key}
use Rattle.fx_data.specs.declared.key.KeyEntry.{KeyEntry}
use Rattle.fx_data.specs.declared.table.Table.{Table}
use Rattle.fx_data.proofs.Regrouped.{joined_empty}
use Rattle.fx_group.specs.Turned.{Groups, with_rows}
use Rattle.fx_group.proofs.Turned.{joined_both}
use Rattle.fx_window.specs.Cut.{own_bounds, widest, bounds_of, within, windows_between, window_key, windows_of}
use Rattle.fx_window.specs.Numbers.{numbers}
use Rattle.fx_window.specs.Plain.{wider, bounds_after}
use Rattle.fx_window.specs.Reaches.{rows_in}
use Rattle.fx_window.specs.Window.{copies}
use Rattle.fx_window.specs.declared.cutting.Bounds.{Bounds}
use Rattle.fx_window.specs.declared.reach.Reach.{Reach}
use Rattle.fx_window.specs.declared.standing.Placed.{Placed}

widest_after : (b : Bounds) (ps : List Placed) → bounds_after (Some b) ps ≡ Some (widest b ps)
widest_after b [] = refl
widest_after b (p ∷ ps) = widest_after (wider (Some b) p) ps

pub bounds_begin : (ps : List Placed) → bounds_after None ps ≡ bounds_of ps
bounds_begin [] = refl
bounds_begin (p ∷ ps) = widest_after (own_bounds p) ps

-- ---- the windows between bounds

pub between_none : (every : Span) (b : Bounds) → b.stop ≤ℤ b.start → windows_between every b ≡ []
between_none every b h =
    ap (λ t. if t then numbers (last_stopped every every b.start +ℤ pos 1) (last_started every (b.stop -ℤ pos 1) +ℤ pos 1) else []) (lt_fails b.start b.stop h)

pub between_some : (every : Span) (b : Bounds) (first next : ℤ) → b.start <ℤ b.stop → first ≡ last_stopped every every b.start +ℤ pos 1
    → next ≡ last_started every (b.stop -ℤ pos 1) +ℤ pos 1 → numbers first next ≡ windows_between every b
between_some every b first next h is_first is_next =
    (λ i. numbers (is_first i) (is_next i))
    ∙ sym (ap (λ t. if t then numbers (last_stopped every every b.start +ℤ pos 1) (last_started every (b.stop -ℤ pos 1) +ℤ pos 1) else []) (lt_holds b.start b.stop h))

-- windows without rows are their keys
pub empty_windows : (every : Span) (r : Reach) (b : Bounds) (key : Key) (ks : List ℤ) → r.low ≡ b.start → r.high ≡ b.stop
    → map (rows_in every every r key []) ks ≡ map bare (map (window_key every b key) ks)
empty_windows every r b key [] low high = refl
empty_windows every r b key (k ∷ ks) low high =
    (λ i. bare (window_key every (record { start = low i; stop = high i }) key k) ∷ map (rows_in every every r key []) ks)
    ∙ ap (λ ts. bare (window_key every b key k) ∷ ts) (empty_windows every r b key ks low high)

-- ---- the rows of the windows

pub within_copies : (every : Span) (b : Bounds) (key : Key) (ps : List Placed)
    → flat_map (copies every every key) (map (within b) ps) ≡ flat_map (λ p. copies every every key (within b p)) ps
within_copies every b key [] = refl
within_copies every b key (p ∷ ps) = ap (λ rs. copies every every key (within b p) ++ rs) (within_copies every b key ps)

pub within_all : (entries : List KeyEntry) (b : Bounds) (ps : List Placed) → AllByRecursion (λ p. HasKey entries p.row) ps
    → AllByRecursion (λ p. HasKey entries p.row) (map (within b) ps)
within_all entries b [] h = tt
within_all entries b (p ∷ ps) h = (h.0, within_all entries b ps h.1)

-- groups of the rows and of the keys without rows are the windows
pub windows_are : (every : Span) (all : Bool) (b : Bounds) (key : Key) (ps : List Placed) (none rows whole : Groups) (ts : List Table) → none ≡ fin.empty
    → rows ≡ with_rows none (flat_map (λ p. copies every every key (within b p)) ps)
    → whole ≡ all_joined rows (map bare (if all then map (window_key every b key) (windows_between every b) else []))
    → ts ≡ map table_of (fin.entries whole) → ts ≡ windows_of every all b key ps
unfolding gathered
windows_are every all b key ps none rows whole ts empty made joined is =
    let copied = flat_map (λ p. copies every every key (within b p)) ps in
    let bares = map bare (if all then map (window_key every b key) (windows_between every b) else []) in
    is ∙ ap (λ (groups : Groups). map table_of (fin.entries groups))
    (joined ∙ ap (λ (groups : Groups). all_joined groups bares) (made ∙ ap (λ (groups : Groups). with_rows groups copied) empty)
    ∙ sym (joined_both fin.empty (map alone copied) bares) ∙ joined_empty (map alone copied ++ bares))
