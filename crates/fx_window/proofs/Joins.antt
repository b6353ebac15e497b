-- Groups to which tables are joined in one order or another.
use Rattle.std.proofs.Common.{◌≡◌, ℕ, zero, suc, ◌+◌, get_or, take, drop, Bool, true, false, ◌<◌, List, [], ◌∷◌, ◌++◌, map, length, ℤ, pos, ◌+ℤ◌, ◌≤ℤ◌, refl, sym, ap, ◌∙◌, arith}
use Rattle.std.proofs.lemmas.Int.{ints}
use Rattle.std.proofs.lemmas.List.{append-nil, drop_more}
use Rattle.std.specs.Prelude.{◌<ℤ◌, cond, Some, Option, codes}
use Rattle.std.specs.Cmp.{Equal-is}
use Rattle.std.specs.Cmp.Lexicographic.{nat_list_cmp_total}
use Rattle.std.specs.Int.{int_gap}
use Rattle.std.specs.List.{flat_map, AllByRecursion}
use Rattle.std.specs.FinMap as fin
use Rattle.std.specs.FinMap.Entries.{find, find-put, put}
use Rattle.std.specs.Option.{unwrap_or}
use Rattle.std.specs.Ordering.{eq_by_cmp}
use Rattle.fx_base.specs.Text.{text_cmp}
use Rattle.fx_time.specs.declared.span.Span.{Span}
use Rattle.fx_value.specs.declared.scalar.Scalar.{Scalar}
use Rattle.fx_value.specs.declared.scalar.Scalar.TheVariants as scalar
use Rattle.fx_data.specs.Columns.{parts_of, entry_of, key_with}
use Rattle.fx_data.specs.Key.{key_cmp}
use Rattle.fx_data.specs.Regrouped.{alone, joined, all_joined}
use Rattle.fx_data.specs.Table.{HasKey, IsLawfulTable}
use Rattle.fx_data.specs.declared.key.Key.{Key}
use Rattle.fx_data.specs.declared.table.Table.{Table}
use Rattle.fx_data.proofs.Keys.{key_cmp_total, key_same}
use Rattle.fx_data.proofs.Regrouped.{get-joined, joined_twice, key_kept}
use Rattle.fx_group.specs.Answer.{Row}
use Rattle.fx_group.specs.RangeRows.{bounded_key}
use Rattle.fx_group.specs.Turned.{Groups, with_rows}
use Rattle.fx_group.proofs.Ranged.{bounded_lawful}
use Rattle.fx_group.proofs.Turned.{with_both}
use Rattle.fx_window.specs.Clip.{raised, lowered}
use Rattle.fx_window.specs.Numbers.{so_many, numbers}
use Rattle.fx_window.specs.Reaches.{AreApart, copy_at, copies_of, rows_in}
use Rattle.fx_window.specs.declared.reach.Reach.{Reach}
use Rattle.fx_window.proofs.Numbers.{all_so_many}

-- keys that differ don't tie
pub untied : (a b : Key) → (a ≡ b → ⊥) → eq_by_cmp key_cmp a b ≡ false
untied a b apart =
    elim (eq_by_cmp key_cmp a b) as (λ t. eq_by_cmp key_cmp a b ≡ t → t ≡ false) [
      | true ↦ λ e. absurd (apart (key_same a b ((Equal-is _).0 e)))
      | false ↦ λ e. refl
    ] refl

parts_back : (ps : List (List ℕ × (Scalar × Bool))) → map parts_of (map entry_of ps) ≡ ps
parts_back [] = refl
parts_back (p ∷ ps) = ap (λ qs. p ∷ qs) (parts_back ps)

-- ---- tables of different keys

module _ (groups : Groups) (t u : Table) (apart : t.key ≡ u.key → ⊥) where
  at_key : (q : Key) (a b : Bool) → eq_by_cmp key_cmp q t.key ≡ a → eq_by_cmp key_cmp q u.key ≡ b → (o : Option (List Row))
      → cond b (Some (unwrap_or (cond a (Some (unwrap_or o [] ++ t.rows)) o) [] ++ u.rows)) (cond a (Some (unwrap_or o [] ++ t.rows)) o)
      ≡ cond a (Some (unwrap_or (cond b (Some (unwrap_or o [] ++ u.rows)) o) [] ++ t.rows)) (cond b (Some (unwrap_or o [] ++ u.rows)) o)
  at_key q true true e f o = absurd (apart (sym (key_same q t.key ((Equal-is _).0 e)) ∙ key_same q u.key ((Equal-is _).0 f)))
  at_key q true false e f o = refl
  at_key q false true e f o = refl
  at_key q false false e f o = refl

  swap : joined (joined groups t) u ≡ joined (joined groups u) t
  swap =
      fin.same_map key_cmp_total key_same _ _ (λ q.
      get-joined (joined groups t) u q
      ∙ ap (λ (o : Option (List Row)). cond (eq_by_cmp key_cmp q u.key) (Some (unwrap_or o [] ++ u.rows)) o) (get-joined groups t q)
      ∙ at_key q (eq_by_cmp key_cmp q t.key) (eq_by_cmp key_cmp q u.key) refl refl (fin.get groups q)
      ∙ ap (λ (o : Option (List Row)). cond (eq_by_cmp key_cmp q t.key) (Some (unwrap_or o [] ++ t.rows)) o) (sym (get-joined groups u q))
      ∙ sym (get-joined (joined groups u) t q))

past : (groups : Groups) (t : Table) (us : List Table) → AllByRecursion (λ u. t.key ≡ u.key → ⊥) us → all_joined (joined groups t) us ≡ joined (all_joined groups us) t
past groups t [] apart = refl
past groups t (u ∷ us) apart = ap (λ g. all_joined g us) (swap groups t u apart.0) ∙ past (joined groups u) t us apart.1

-- ---- keys of windows

at_label : (key : Key) (label q : List ℕ) (value : Scalar) → find text_cmp q (map parts_of (key_with key label value).entries)
    ≡ cond (eq_by_cmp text_cmp q label) (Some (value, false)) (find text_cmp q (map parts_of key.entries))
at_label key label q value =
    ap (find text_cmp q) (parts_back (put text_cmp label (value, false) (map parts_of key.entries)))
    ∙ find-put text_cmp nat_list_cmp_total q label (value, false) (map parts_of key.entries)

parts_at : (start stop : ℤ) (key : Key) → (find text_cmp (codes "_start") (map parts_of (bounded_key start stop key).entries) ≡ Some (scalar.Time start, false))
    × (find text_cmp (codes "_stop") (map parts_of (bounded_key start stop key).entries) ≡ Some (scalar.Time stop, false))
parts_at start stop key =
    let started = key_with key (codes "_start") (scalar.Time start) in (
      at_label started (codes "_stop") (codes "_start") (scalar.Time stop) ∙ at_label key (codes "_start") (codes "_start") (scalar.Time start),
      at_label started (codes "_stop") (codes "_stop") (scalar.Time stop),
    )

time_of_part : Option (Scalar × Bool) → ℤ
time_of_part (Some (scalar.Time t, b)) = t
time_of_part p = pos 0

-- keys with different times in them differ
pub bounded_apart : (start stop begin end : ℤ) (key : Key) → bounded_key start stop key ≡ bounded_key begin end key → (start ≡ begin) × (stop ≡ end)
unfolding time_of_part
bounded_apart start stop begin end key same =
    let first = parts_at start stop key in
    let second = parts_at begin end key in (
      ap time_of_part (sym first.0 ∙ ap (λ (k : Key). find text_cmp (codes "_start") (map parts_of k.entries)) same ∙ second.0),
      ap time_of_part (sym first.1 ∙ ap (λ (k : Key). find text_cmp (codes "_stop") (map parts_of k.entries)) same ∙ second.1),
    )

-- ---- rows in windows

-- no two of the numbers have such a relation
unfoldable pub Pairwise : (ℤ → ℤ → Type 0) → List ℤ → Type 0
Pairwise R [] = Unit {0}
Pairwise R (k ∷ ks) = AllByRecursion (R k) ks × Pairwise R ks

pairwise_so_many : (R : ℤ → ℤ → Type 0) (first next : ℤ) (n : ℕ) → int_gap first next ≡ n → ((j k : ℤ) → first ≤ℤ j → j <ℤ k → k <ℤ next → R j k) → Pairwise R (so_many first n)
unfolding Pairwise
pairwise_so_many R first next zero gap h = tt
pairwise_so_many R first next (suc n) gap h = (
  all_so_many (R first) (first +ℤ pos 1) next n (grind (arith, ints)) (λ k from to. h first k (omega (arith, ints)) (omega (arith, ints)) to),
  pairwise_so_many R (first +ℤ pos 1) next n (grind (arith, ints)) (λ j k from rise to. h j k (omega (arith, ints)) rise to),
)

pairwise_numbers : (R : ℤ → ℤ → Type 0) (first next : ℤ) → ((j k : ℤ) → first ≤ℤ j → j <ℤ k → k <ℤ next → R j k) → Pairwise R (numbers first next)
pairwise_numbers R first next h = pairwise_so_many R first next (int_gap first next) refl h

module _ (every period : Span) (r : Reach) (key : Key) where
  abbrev pub key_of : ℤ → Key
  key_of k = bounded_key (raised every r.low k) (lowered every period r.high k) key

  abbrev in_window : List Row → ℤ → Table
  in_window rows k = rows_in every period r key rows k

  unfoldable pub Differ : ℤ → ℤ → Type 0
  Differ j k = key_of j ≡ key_of k → ⊥

  all_differ : (rows : List Row) (k : ℤ) (ks : List ℤ) → AllByRecursion (Differ k) ks → AllByRecursion (λ u. key_of k ≡ u.key → ⊥) (map (in_window rows) ks)
  unfolding Differ
  all_differ rows k [] h = tt
  all_differ rows k (j ∷ ks) h = (h.0, all_differ rows k ks h.1)

  -- one row before others, window after window
  row_first : (groups : Groups) (row : Row) (rows : List Row) (ks : List ℤ) → Pairwise Differ ks
      → all_joined groups (map (in_window (row ∷ rows)) ks) ≡ all_joined (all_joined groups (map (in_window (row ∷ [])) ks)) (map (in_window rows) ks)
  unfolding Pairwise
  row_first groups row rows [] h = refl
  row_first groups row rows (k ∷ ks) h =
      let one = in_window (row ∷ []) k in
      let others = in_window rows k in
      ap (λ g. all_joined g (map (in_window (row ∷ rows)) ks)) (joined_twice groups (key_of k) one.rows others.rows)
      ∙ row_first (joined (joined groups one) others) row rows ks h.1
      ∙ ap (λ g. all_joined g (map (in_window rows) ks)) (past (joined groups one) others (map (in_window (row ∷ [])) ks) (all_differ (row ∷ []) k ks h.0))

  -- a row of a lawful table, alone in each window, has the key of the window
  pub alone_in : (row : Row) (k : ℤ) → IsLawfulTable (record { key = key; rows = row ∷ [] }) → alone (copy_at every period r key row k) ≡ in_window (row ∷ []) k
  alone_in row k lawful =
      let set = (copy_at every period r key row k).row in
      let has = (bounded_lawful (raised every r.low k) (lowered every period r.high k) (record { key = key; rows = row ∷ [] }) lawful).columns.0 in
      λ i. record { key = key_kept (key_of k) set has i; rows = set ∷ [] }

  one_row : (groups : Groups) (row : Row) (ks : List ℤ) → IsLawfulTable (record { key = key; rows = row ∷ [] })
      → all_joined groups (map (in_window (row ∷ [])) ks) ≡ with_rows groups (map (copy_at every period r key row) ks)
  one_row groups row [] lawful = refl
  one_row groups row (k ∷ ks) lawful =
      ap (λ t. all_joined (joined groups t) (map (in_window (row ∷ [])) ks)) (sym (alone_in row k lawful))
      ∙ one_row (joined groups (alone (copy_at every period r key row k))) row ks lawful

  -- one row in its windows
  pub singly : (groups : Groups) (row : Row) → IsLawfulTable (record { key = key; rows = row ∷ [] })
      → all_joined groups (map (in_window (row ∷ [])) (numbers r.first r.next)) ≡ with_rows groups (copies_of every period r key row)
  singly groups row lawful = one_row groups row (numbers r.first r.next) lawful

  of_first : (row : Row) (rows : List Row) → IsLawfulTable (record { key = key; rows = row ∷ rows }) → IsLawfulTable (record { key = key; rows = row ∷ [] })
  of_first row rows lawful = record { rising = lawful.rising; columns = (lawful.columns.0, tt) }

  all_rows : (groups : Groups) (row : Row) (rows : List Row) → Pairwise Differ (numbers r.first r.next) → IsLawfulTable (record { key = key; rows = row ∷ rows })
      → all_joined groups (map (in_window (row ∷ rows)) (numbers r.first r.next)) ≡ with_rows groups (flat_map (copies_of every period r key) (row ∷ rows))
  all_rows groups row [] apart lawful =
      singly groups row lawful ∙ ap (with_rows groups) (sym (append-nil (copies_of every period r key row)))
  all_rows groups row (next ∷ rows) apart lawful =
      row_first groups row (next ∷ rows) (numbers r.first r.next) apart
      ∙ ap (λ g. all_joined g (map (in_window (next ∷ rows)) (numbers r.first r.next))) (singly groups row (of_first row (next ∷ rows) lawful))
      ∙ all_rows (with_rows groups (copies_of every period r key row)) next rows apart (record { rising = lawful.rising; columns = lawful.columns.1 })
      ∙ sym (with_both groups (copies_of every period r key row) (flat_map (copies_of every period r key) (next ∷ rows)))

  pub all_apart : AreApart every period r → Pairwise Differ (numbers r.first r.next)
  unfolding Differ
  all_apart apart =
      pairwise_numbers Differ r.first r.next (λ j k from rise to same.
      let times = bounded_apart (raised every r.low j) (lowered every period r.high j) (raised every r.low k) (lowered every period r.high k) key same in
      apart j k from rise to times.0 times.1)

  -- rows window after window are the rows one after another, each in its windows, where no two windows have one key
  pub window_by_window : (groups : Groups) (rows : List Row) → 0 < length rows → AreApart every period r → IsLawfulTable (record { key = key; rows = rows })
      → all_joined groups (map (in_window rows) (numbers r.first r.next)) ≡ with_rows groups (flat_map (copies_of every period r key) rows)
  window_by_window groups [] some apart lawful = absurd (omega arith)
  window_by_window groups (row ∷ rows) some apart lawful = all_rows groups row rows (all_apart apart) lawful

  -- ---- one row of a list, in its windows

  -- the row at a place among rows
  abbrev pub row_at : List Row → ℕ → Row
  row_at rows i = get_or rows i fin.empty

  pub slice_at : (rows : List Row) (i n : ℕ) → i < length rows → n ≡ 1 → take n (drop i rows) ≡ row_at rows i ∷ []
  slice_at rows i n within one = ap (λ m. take m (drop i rows)) one ∙ ap (take 1) (drop_more rows i fin.empty within)

  has_at : (P : Row → Type 0) (rows : List Row) (i : ℕ) → i < length rows → AllByRecursion P rows → P (row_at rows i)
  has_at P [] i within h = absurd (omega arith)
  has_at P (row ∷ rows) zero within h = h.0
  has_at P (row ∷ rows) (suc i) within h = has_at P rows i (omega arith) h.1

  pub lawful_one : (rows : List Row) (i : ℕ) → i < length rows → IsLawfulTable (record { key = key; rows = rows }) → IsLawfulTable (record { key = key; rows = row_at rows i ∷ [] })
  lawful_one rows i within lawful = record { rising = lawful.rising; columns = (has_at (HasKey key.entries) rows i within lawful.columns, tt) }

  pub singly_next : (groups next : Groups) (rows slice : List Row) (i : ℕ) → i < length rows → IsLawfulTable (record { key = key; rows = rows }) → slice ≡ row_at rows i ∷ []
      → next ≡ all_joined groups (map (in_window slice) (numbers r.first r.next))
      → with_rows next (flat_map (copies_of every period r key) (drop (i + 1) rows)) ≡ with_rows groups (flat_map (copies_of every period r key) (drop i rows))
  singly_next groups next rows slice i within lawful one is =
      let row = row_at rows i in
      let later = flat_map (copies_of every period r key) (drop (i + 1) rows) in
      ap (λ (g : Groups). with_rows g later)
      (is ∙ ap (λ rs. all_joined groups (map (in_window rs) (numbers r.first r.next))) one ∙ singly groups row (lawful_one rows i within lawful))
      ∙ sym (with_both groups (copies_of every period r key row) later)
      ∙ ap (λ rs. with_rows groups (flat_map (copies_of every period r key) rs)) (sym (drop_more rows i fin.empty within))
