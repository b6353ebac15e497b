-- How many windows lie between bounds, and how many tables a cut makes of them.
use Rattle.std.proofs.Common.{◌≡◌, ℕ, zero, suc, ◌+◌, ◌-◌, ◌^◌, inl, inr, Bool, true, false, List, [], ◌∷◌, ◌++◌, map, length, ℤ, pos, ◌+ℤ◌, ◌≤ℤ◌, refl, sym, ap, subst, ◌∙◌, arith}
use Rattle.std.proofs.lemmas.Int.{ints}
use Rattle.std.proofs.lemmas.List.{append-nil, length-map}
use Rattle.std.specs.Prelude.{◌<ℤ◌, ◌-ℤ◌, ◌&&◌, ◌||◌, neg_ℤ, cond, int_le, int_lt, Option, Some, if◌then◌else◌}
use Rattle.std.specs.Cmp.{eq_by_cmp_equiv}
use Rattle.std.specs.FinMap as fin
use Rattle.std.specs.Int.{int_gap, int_min, int_max}
use Rattle.std.specs.List.{flat_map, AllByRecursion}
use Rattle.std.specs.Option.{is_some, unwrap_or}
use Rattle.std.specs.Ordering.{eq_by_cmp}
use Rattle.fx_time.specs.Windows.{IsWindow, window_start, window_stop, last_started, last_stopped, IsLeast}
use Rattle.fx_time.specs.declared.span.Span.{Span}
use Rattle.fx_time.proofs.TestLemmas.{int_tells}
use Rattle.fx_time.proofs.WindowLemmas.{stop_next}
use Rattle.fx_value.specs.Ends.{Gives}
use Rattle.fx_value.proofs.Loops.{told_then}
use Rattle.fx_data.specs.Gathered.{table_of, grouped, gathered}
use Rattle.fx_data.specs.Key.{key_cmp}
use Rattle.fx_data.specs.Regrouped.{alone, bare, joined, all_joined}
use Rattle.fx_data.specs.Table.{HasKey, HasRisingLabels, IsLawfulTable}
use Rattle.fx_data.specs.declared.key.Key.{Key}
use Rattle.fx_data.specs.declared.keyed_row.KeyedRow.{KeyedRow}
use Rattle.fx_data.specs.declared.table.Table.{Table}
use Rattle.fx_data.proofs.Keys.{key_cmp_total, key_same}
use Rattle.fx_data.proofs.Lawful.{all-append}
use Rattle.fx_data.proofs.Regrouped.{get-joined, joined_empty, grouped_none}
use Rattle.fx_group.specs.Answer.{Row}
use Rattle.fx_group.specs.RangeRows.{set_row}
use Rattle.fx_group.specs.Turned.{Groups}
use Rattle.fx_group.proofs.Turned.{joined_both}
use Rattle.fx_window.specs.Clip.{raised, lowered}
use Rattle.fx_window.specs.Cut.{within, windows_between, window_key, windows_of, cut_of, cut_size}
use Rattle.fx_window.specs.Numbers.{so_many, numbers}
use Rattle.fx_window.specs.Window.{copy_in, copies}
use Rattle.fx_window.specs.declared.cutting.Bounds.{Bounds}
use Rattle.fx_window.specs.declared.cutting.CutTable.{CutTable}
use Rattle.fx_window.specs.declared.reach.Reach.{Reach}
use Rattle.fx_window.specs.declared.standing.Placed.{Placed}
use Rattle.fx_window.proofs.Clipped.{apart_starts}
use Rattle.fx_window.proofs.Cuts.{between_none, between_some}
use Rattle.fx_window.proofs.Joins.{Pairwise, Differ, untied, alone_in, all_apart}
use Rattle.fx_window.proofs.Numbers.{all_numbers, flat_map_none}
use Rattle.fx_window.proofs.Windows.{starts_le, start_grows, start_of_zero}

-- ---- numbers of windows near times in 64 bits

module _ (every : Span) (window : IsWindow every) where
  -- a window so far after 1970 starts no earlier, and one so far before starts no later
  start_after : (n : ℕ) → pos n ≤ℤ window_start every (pos n)
  start_after n =
      let grown = start_grows every window (pos 0) n in
      let begin = start_of_zero every in
      let same : (pos 0 +ℤ pos n) ≡ pos n = omega (arith, ints) in
      subst (λ z. pos n ≤ℤ window_start every z) same (omega (arith, ints))

  start_before : (n : ℕ) → window_start every (neg_ℤ (pos n)) ≤ℤ neg_ℤ (pos n)
  start_before n =
      let grown = start_grows every window (neg_ℤ (pos n)) n in
      let same : (neg_ℤ (pos n) +ℤ pos n) ≡ pos 0 = omega (arith, ints) in
      let end : window_start every (neg_ℤ (pos n) +ℤ pos n) ≡ pos 0 = ap (window_start every) same ∙ start_of_zero every in
      omega (arith, ints)

  -- the numbers of windows between two times in 64 bits
  pub count_fits : (low last first next : ℤ) → neg_ℤ (pos (2 ^ 63)) ≤ℤ low → low ≤ℤ last → last ≤ℤ pos (2 ^ 63 - 2) → IsLeast (λ k. low <ℤ window_stop every every k) first
      → IsLeast (λ k. last <ℤ window_start every k) next → (neg_ℤ (pos (2 ^ 63)) ≤ℤ first) × (first ≤ℤ next) × (next ≤ℤ pos (2 ^ 63 - 1))
  count_fits low last first next near order far after starts =
      let begun = starts.0 in
      let next_start = starts_le every window next (next +ℤ pos 1) (omega (arith, ints)) in
      let next_stop = stop_next every next window in
      let late = start_after (2 ^ 63 - 1) in (
        elim (int_tells first (neg_ℤ (pos (2 ^ 63)))) [
          | inl below ↦
              let early = start_before (2 ^ 63) in
              let up = starts_le every window (first +ℤ pos 1) (neg_ℤ (pos (2 ^ 63))) (omega (arith, ints)) in
              let stop = stop_next every first window in
              let past = after.0 in
              absurd (omega (arith, ints))
          | inr above ↦ above
        ],
        after.1 next (omega (arith, ints)),
        starts.1 (pos (2 ^ 63 - 1)) (omega (arith, ints)),
      )

-- a time that lies in what is left of a window
clipped_inside : (low high start stop t : ℤ) → (int_le (int_max low start) t && int_lt t (int_min high stop)) ≡ true → (low ≤ℤ t) × (t <ℤ high) × (start ≤ℤ t) × (t <ℤ stop)
clipped_inside low high start stop t e = (grind (arith, ints), grind (arith, ints), grind (arith, ints), grind (arith, ints))

clipped_empty : (low high start stop t : ℤ) → high ≤ℤ low → (int_le (int_max low start) t && int_lt t (int_min high stop)) ≡ false
clipped_empty low high start stop t h = grind (arith, ints)

number_in : (P : ℤ → Type 0) (first next k : ℤ) (n : ℕ) → int_gap first next ≡ n → AllByRecursion P (so_many first n) → first ≤ℤ k → k <ℤ next → P k
number_in P first next k zero gap h from to = absurd (grind (arith, ints))
number_in P first next k (suc n) gap h from to = elim (int_tells first k) [
  | inl later ↦ number_in P (first +ℤ pos 1) next k n (grind (arith, ints)) h.1 (omega (arith, ints)) to
  | inr here ↦ let same : first ≡ k = omega (arith, ints) in subst P same h.0
]

-- what holds of all numbers holds of each between
at_number : (P : ℤ → Type 0) (first next k : ℤ) → AllByRecursion P (numbers first next) → first ≤ℤ k → k <ℤ next → P k
at_number P first next k h from to = number_in P first next k (int_gap first next) refl h from to

none_more : (n : ℕ) → 0 + n ≡ n
none_more n = omega arith

-- ---- how many keys groups have

contains_joined : (groups : Groups) (t : Table) (q : Key) → fin.contains_key (joined groups t) q ≡ (eq_by_cmp key_cmp q t.key || fin.contains_key groups q)
contains_joined groups t q =
    ap is_some (get-joined groups t q)
    ∙ elim (eq_by_cmp key_cmp q t.key) as (λ b. is_some (cond b (Some (unwrap_or (fin.get groups q) [] ++ t.rows)) (fin.get groups q)) ≡ (b || is_some (fin.get groups q))) [
      | true ↦ refl
      | false ↦ refl
    ]

len_joined : (groups : Groups) (t : Table) → fin.len (joined groups t) ≡ cond (fin.contains_key groups t.key) (fin.len groups) (fin.len groups + 1)
unfolding joined
len_joined groups t = fin.len-insert key_cmp_total groups t.key (unwrap_or (fin.get groups t.key) [] ++ t.rows)

or_true : (a : Bool) → (a || true) ≡ true
or_true true = refl
or_true false = refl

still : (groups : Groups) (t : Table) (q : Key) → fin.contains_key groups q ≡ true → fin.contains_key (joined groups t) q ≡ true
still groups t q h = contains_joined groups t q ∙ ap (λ b. eq_by_cmp key_cmp q t.key || b) h ∙ or_true (eq_by_cmp key_cmp q t.key)

still_all : (groups : Groups) (ts : List Table) (q : Key) → fin.contains_key groups q ≡ true → fin.contains_key (all_joined groups ts) q ≡ true
still_all groups [] q h = h
still_all groups (t ∷ ts) q h = still_all (joined groups t) ts q (still groups t q h)

all_still : (groups : Groups) (t : Table) (ts : List Table) → AllByRecursion (λ u. fin.contains_key groups u.key ≡ true) ts
    → AllByRecursion (λ u. fin.contains_key (joined groups t) u.key ≡ true) ts
all_still groups t [] h = tt
all_still groups t (u ∷ ts) h = (still groups t u.key h.0, all_still groups t ts h.1)

-- tables whose keys are there add none
same_count : (groups : Groups) (ts : List Table) → AllByRecursion (λ t. fin.contains_key groups t.key ≡ true) ts → fin.len (all_joined groups ts) ≡ fin.len groups
same_count groups [] h = refl
same_count groups (t ∷ ts) h =
    same_count (joined groups t) ts (all_still groups t ts h.1) ∙ len_joined groups t ∙ ap (λ b. cond b (fin.len groups) (fin.len groups + 1)) h.0

-- ---- the moment of tables without rows

bare_at : (o : Option (List Row)) (a b : Bool) (ys : List Row)
    → cond b (Some (unwrap_or (cond a (Some (unwrap_or o [] ++ [])) o) [] ++ ys)) (cond a (Some (unwrap_or o [] ++ [])) o)
    ≡ cond a (Some (unwrap_or (cond b (Some (unwrap_or o [] ++ ys)) o) [] ++ [])) (cond b (Some (unwrap_or o [] ++ ys)) o)
bare_at o true true ys = ap (λ (rs : List Row). Some (rs ++ ys)) (append-nil (unwrap_or o [])) ∙ ap (λ (rs : List Row). Some rs) (sym (append-nil (unwrap_or o [] ++ ys)))
bare_at o true false ys = refl
bare_at o false true ys = refl
bare_at o false false ys = refl

bare_later : (groups : Groups) (k : Key) (t : Table) → joined (joined groups (bare k)) t ≡ joined (joined groups t) (bare k)
bare_later groups k t =
    fin.same_map key_cmp_total key_same _ _ (λ q.
    get-joined (joined groups (bare k)) t q
    ∙ ap (λ (o : Option (List Row)). cond (eq_by_cmp key_cmp q t.key) (Some (unwrap_or o [] ++ t.rows)) o) (get-joined groups (bare k) q)
    ∙ bare_at (fin.get groups q) (eq_by_cmp key_cmp q k) (eq_by_cmp key_cmp q t.key) t.rows
    ∙ ap (λ (o : Option (List Row)). cond (eq_by_cmp key_cmp q k) (Some (unwrap_or o [] ++ [])) o) (sym (get-joined groups t q))
    ∙ sym (get-joined (joined groups t) (bare k) q))

one_later : (groups : Groups) (k : Key) (ts : List Table) → all_joined (joined groups (bare k)) ts ≡ joined (all_joined groups ts) (bare k)
one_later groups k [] = refl
one_later groups k (t ∷ ts) = ap (λ g. all_joined g ts) (bare_later groups k t) ∙ one_later (joined groups t) k ts

all_later : (groups : Groups) (ks : List Key) (ts : List Table) → all_joined (all_joined groups (map bare ks)) ts ≡ all_joined (all_joined groups ts) (map bare ks)
all_later groups [] ts = refl
all_later groups (k ∷ ks) ts = all_later (joined groups (bare k)) ks ts ∙ ap (λ g. all_joined g (map bare ks)) (one_later groups k ts)

-- ---- the windows between bounds

module _ (every : Span) (window : IsWindow every) (b : Bounds) (key : Key) where
  pair : IsWindow every × IsWindow every × (pos 0 <ℤ every.months → pos 0 <ℤ every.months)
  pair = (window, window, λ some. some)

  abbrev reach : ℤ → ℤ → Reach
  reach first next = record { first = first; next = next; low = b.start; high = b.stop }

  abbrev K : ℤ → Key
  K k = window_key every b key k

  others : (first next : ℤ) (groups : Groups) (k : ℤ) (ns : List ℤ) → AllByRecursion (Differ every every (reach first next) key k) ns → AllByRecursion (λ j. fin.contains_key groups (K j) ≡ false) ns
      → AllByRecursion (λ j. fin.contains_key (joined groups (bare (K k))) (K j) ≡ false) ns
  unfolding Differ
  others first next groups k [] apart new = tt
  others first next groups k (j ∷ ns) apart new = (
    contains_joined groups (bare (K k)) (K j) ∙ ap (λ t. t || fin.contains_key groups (K j)) (untied (K j) (K k) (λ same. apart.0 (sym same))) ∙ new.0,
    others first next groups k ns apart.1 new.1,
  )

  -- windows whose keys differ add one key each
  new_count : (first next : ℤ) (groups : Groups) (ns : List ℤ) → Pairwise (Differ every every (reach first next) key) ns → AllByRecursion (λ k. fin.contains_key groups (K k) ≡ false) ns
      → fin.len (all_joined groups (map bare (map K ns))) ≡ fin.len groups + length ns
  unfolding Pairwise
  new_count first next groups [] apart new = omega arith
  new_count first next groups (k ∷ ns) apart new =
      let added : fin.len (joined groups (bare (K k))) ≡ fin.len groups + 1 = len_joined groups (bare (K k)) ∙ ap (λ t. cond t (fin.len groups) (fin.len groups + 1)) new.0 in
      let rest = new_count first next (joined groups (bare (K k))) ns apart.1 (others first next groups k ns apart.0 new.1) in
      omega arith

  all_there : (groups : Groups) (ns : List ℤ) → AllByRecursion (λ k. fin.contains_key (all_joined groups (map bare (map K ns))) (K k) ≡ true) ns
  all_there groups [] = tt
  all_there groups (k ∷ ns) = (
    still_all (joined groups (bare (K k))) (map bare (map K ns)) (K k)
        (contains_joined groups (bare (K k)) (K k) ∙ ap (λ t. t || fin.contains_key groups (K k)) ((eq_by_cmp_equiv key_cmp_total).refl (K k))),
    all_there (joined groups (bare (K k))) ns,
  )

  -- ---- the rows lie in these windows

  -- a copy of a row, wherever it is put, has a key that is there
  module _ (first next : ℤ) (groups : Groups) (after : IsLeast (λ k. b.start <ℤ window_stop every every k) first) (starts : IsLeast (λ k. (b.stop -ℤ pos 1) <ℤ window_start every k) next)
      (there : (k : ℤ) → first ≤ℤ k → k <ℤ next → fin.contains_key groups (K k) ≡ true) where
    abbrev IsThere : KeyedRow → Type 0
    IsThere row = fin.contains_key groups (alone row).key ≡ true

    in_reach : (t k : ℤ) → b.start ≤ℤ t → t <ℤ b.stop → window_start every k ≤ℤ t → t <ℤ window_stop every every k → fin.contains_key groups (K k) ≡ true
    in_reach t k from to begun ended =
        there k (after.1 k (omega (arith, ints)))
        (elim (int_tells k next) [
          | inl below ↦ below
          | inr above ↦ let up = starts_le every window next k above in let past = starts.0 in absurd (omega (arith, ints))
        ])

    copy_there : (p : Placed) (k : ℤ) → IsLawfulTable (record { key = key; rows = p.row ∷ [] }) → AllByRecursion IsThere (copy_in every every key (within b p) k)
    copy_there p k lawful =
        elim (int_le (raised every b.start k) p.at.time && int_lt p.at.time (lowered every every b.stop k)) as (λ t.
        (int_le (raised every b.start k) p.at.time && int_lt p.at.time (lowered every every b.stop k)) ≡ t
        → AllByRecursion IsThere (if t then set_row (raised every b.start k) (lowered every every b.stop k) key p.row ∷ [] else [])) [
          | true ↦ λ e.
              let inside = clipped_inside b.start b.stop (window_start every k) (window_stop every every k) p.at.time e in
              (ap (λ (t : Table). fin.contains_key groups t.key) (alone_in every every (reach first next) key p.row k lawful) ∙ in_reach p.at.time k inside.0 inside.1 inside.2 inside.3, tt)
          | false ↦ λ e. tt
        ] refl

    copies_there : (p : Placed) (ns : List ℤ) → IsLawfulTable (record { key = key; rows = p.row ∷ [] }) → AllByRecursion IsThere (flat_map (copy_in every every key (within b p)) ns)
    copies_there p [] lawful = tt
    copies_there p (k ∷ ns) lawful =
        all-append IsThere (copy_in every every key (within b p) k) (flat_map (copy_in every every key (within b p)) ns) (copy_there p k lawful) (copies_there p ns lawful)

    rows_there : (ps : List Placed) → HasRisingLabels key → AllByRecursion (λ p. HasKey key.entries p.row) ps
        → AllByRecursion IsThere (flat_map (λ p. copies every every key (within b p)) ps)
    rows_there [] rising h = tt
    rows_there (p ∷ ps) rising h =
        all-append IsThere (copies every every key (within b p)) (flat_map (λ (q : Placed). copies every every key (within b q)) ps)
        (copies_there p (numbers (last_stopped every every p.at.time +ℤ pos 1) (last_started every p.at.time +ℤ pos 1)) (record { rising = rising; columns = (h.0, tt) }))
        (rows_there ps rising h.1)

  no_copy : (p : Placed) (k : ℤ) → b.stop ≤ℤ b.start → copy_in every every key (within b p) k ≡ []
  no_copy p k order =
      ap (λ t. if t then set_row (raised every b.start k) (lowered every every b.stop k) key p.row ∷ [] else [])
      (clipped_empty b.start b.stop (window_start every k) (window_stop every every k) p.at.time order)

  no_rows : (ps : List Placed) → b.stop ≤ℤ b.start → flat_map (λ p. copies every every key (within b p)) ps ≡ []
  no_rows [] order = refl
  no_rows (p ∷ ps) order =
      ap (λ (rows : List KeyedRow). rows ++ flat_map (λ (q : Placed). copies every every key (within b q)) ps)
      (flat_map_none (copy_in every every key (within b p)) (numbers (last_stopped every every p.at.time +ℤ pos 1) (last_started every p.at.time +ℤ pos 1))
      (all_numbers (λ k. copy_in every every key (within b p) k ≡ []) (last_stopped every every p.at.time +ℤ pos 1) (last_started every p.at.time +ℤ pos 1) (λ k from to. no_copy p k order)))
      ∙ no_rows ps order

  tables_there : (groups : Groups) (rows : List KeyedRow) → AllByRecursion (λ r. fin.contains_key groups (alone r).key ≡ true) rows
      → AllByRecursion (λ t. fin.contains_key groups t.key ≡ true) (map alone rows)
  tables_there groups [] h = tt
  tables_there groups (r ∷ rows) h = (h.0, tables_there groups rows h.1)

  none_in_none : (ns : List ℤ) → AllByRecursion (λ k. fin.contains_key {X = List Row} (fin.empty {R = key_cmp}) (K k) ≡ false) ns
  none_in_none [] = tt
  none_in_none (k ∷ ns) = (ap is_some (fin.get-empty key_cmp (K k)), none_in_none ns)

  -- a cut with all windows has as many tables as there are windows between the bounds
  pub windows_count : (first next : ℤ) (ps : List Placed) → b.start <ℤ b.stop → first ≡ last_stopped every every b.start +ℤ pos 1 → next ≡ last_started every (b.stop -ℤ pos 1) +ℤ pos 1
      → IsLeast (λ k. b.start <ℤ window_stop every every k) first → IsLeast (λ k. (b.stop -ℤ pos 1) <ℤ window_start every k) next
      → HasRisingLabels key → AllByRecursion (λ p. HasKey key.entries p.row) ps → length (windows_of every true b key ps) ≡ length (windows_between every b)
  unfolding gathered
  windows_count first next ps order is_first is_next after starts rising columns =
      let ns = windows_between every b in
      let copied = flat_map (λ (p : Placed). copies every every key (within b p)) ps in
      let bares = map bare (map K ns) in
      let same = between_some every b first next order is_first is_next in
      let apart : Pairwise (Differ every every (reach first next) key) ns
      = subst (Pairwise (Differ every every (reach first next) key)) same
      (all_apart every every (reach first next) key (apart_starts every every pair (reach first next) (first +ℤ pos 1) refl (subst (λ z. b.start <ℤ z) (stop_next every first window) after.0))) in
      let groups = all_joined fin.empty bares in
      let there : (k : ℤ) → first ≤ℤ k → k <ℤ next → fin.contains_key groups (K k) ≡ true
      = λ k from to. at_number (λ j. fin.contains_key groups (K j) ≡ true) first next k (subst (AllByRecursion (λ j. fin.contains_key groups (K j) ≡ true)) (sym same) (all_there fin.empty ns)) from to in
      length-map (fin.entries (grouped (map alone copied ++ bares))) table_of
      ∙ sym (fin.len-entries (grouped (map alone copied ++ bares)))
      ∙ ap (λ (g : Groups). fin.len g) (sym (joined_empty (map alone copied ++ bares)) ∙ joined_both fin.empty (map alone copied) bares ∙ sym (all_later fin.empty (map K ns) (map alone copied)))
      ∙ same_count groups (map alone copied) (tables_there groups copied (rows_there first next groups after starts there ps rising columns))
      ∙ new_count first next fin.empty ns apart (none_in_none ns) ∙ ap (λ n. n + length ns) (fin.len-empty key_cmp (List Row)) ∙ none_more (length ns)

  -- and none where no moment lies between them
  pub windows_none : (ps : List Placed) → b.stop ≤ℤ b.start → length (windows_of every true b key ps) ≡ 0
  unfolding gathered
  windows_none ps order =
      let copied = flat_map (λ (p : Placed). copies every every key (within b p)) ps in
      let nothing : copied ≡ [] = no_rows ps order in
      (λ i. length (map table_of (fin.entries (grouped (map alone (nothing i) ++ map bare (map K (between_none every b order i)))))))
      ∙ length-map (fin.entries (grouped [])) table_of ∙ sym (fin.len-entries (grouped [])) ∙ ap (λ (g : Groups). fin.len g) grouped_none ∙ fin.len-empty key_cmp (List Row)

-- ---- the size of a cut

module _ (every : Span) (all : Bool) (t : Table) where
  -- the windows that a cut made
  pub size_is : (parts : CutTable) (n : ℕ) → cut_of every all t ≡ Gives parts 0 → n ≡ length parts.windows → cut_size every all t ≡ Gives n 0
  size_is parts n cut is = told_then (cut_of every all t) (λ (p : CutTable). Gives (length p.windows) 0) parts cut ∙ ap (λ (m : ℕ). Gives m 0) (sym is)
