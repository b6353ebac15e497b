-- The rows under the lowest of the keys of two streams.
use Rattle.std.proofs.Common.{◌≡◌, Bool, true, false, List, [], ◌∷◌, ◌++◌, map, length, refl, sym, ap, subst, ◌∙◌, arith}
use Rattle.std.proofs.lemmas.List.{append-nil}
use Rattle.std.specs.Prelude.{cond, ◌||◌, None, Some}
use Rattle.std.specs.declared.cmp.Ordering.TheVariants.{Less, Equal, Greater}
use Rattle.std.specs.Ordering.{is_eq, eq_by_cmp, ordering_reverse}
use Rattle.std.specs.List.{AllByRecursion, filter, flat_map, list_any}
use Rattle.std.specs.List.Sorted.{IsStrictlySortedBy}
use Rattle.std.specs.Cmp.{Equal-is}
use Rattle.std.specs.FinMap as fin
use Rattle.std.specs.FinMap.{FinMap}
use Rattle.std.specs.FinMap.Entries.{find, put, by_order}
use Rattle.fx_data.specs.Ascending.{Rise}
use Rattle.fx_data.specs.Gathered.{rows_with}
use Rattle.fx_data.specs.Key.{key_cmp}
use Rattle.fx_data.specs.declared.key.Key.{Key}
use Rattle.fx_data.specs.declared.table.Table.{Table}
use Rattle.fx_data.specs.Table.{HasRisingLabels, IsLawfulTable}
use Rattle.fx_data.proofs.Keys.{key_cmp_total, key_same}
use Rattle.fx_data.proofs.Lawful.{all-append}
use Rattle.fx_group.specs.Answer.{Row}
use Rattle.fx_join.specs.Meet.{met_under, meeting_of, meetings, lower}
use Rattle.fx_join.specs.declared.meeting.Meeting.{Meeting}

abbrev Rows : Type 0
Rows = List Row

abbrev pub Two : Type 0
Two = Rows × Rows

-- each of the tables has a key above this one
abbrev Above : Key → List Table → Type 0
Above k ts = AllByRecursion (λ q. key_cmp k q ≡ Less) (map (λ t. t.key) ts)

-- whether one of the tables has the key
abbrev has : Key → List Table → Bool
has q ts = list_any (λ t. eq_by_cmp key_cmp q t.key) ts

-- ---- what is found under a key

find-by : (f : Key → Two) (q : Key) (ts : List Table) → find key_cmp q (map (λ t. (t.key, f t.key)) ts) ≡ cond (has q ts) (Some (f q)) None
find-by f q [] = refl
find-by f q (t ∷ ts) =
    elim (eq_by_cmp key_cmp q t.key) as (λ b. eq_by_cmp key_cmp q t.key ≡ b
    → cond b (Some (f t.key)) (find key_cmp q (map (λ u. (u.key, f u.key)) ts)) ≡ cond (b || has q ts) (Some (f q)) None) [
      | true ↦ λ b. ap (λ k. Some (f k)) (sym (key_same q t.key ((Equal-is _).0 b)))
      | false ↦ λ b. find-by f q ts
    ] refl

get-met : (ls rs : List Table) (q : Key) → fin.get (met_under ls rs) q ≡ cond (has q (ls ++ rs)) (Some (rows_with q ls, rows_with q rs)) None
unfolding met_under
get-met ls rs q = fin.get-from_entries key_cmp_total _ q ∙ find-by (λ k. (rows_with k ls, rows_with k rs)) q (ls ++ rs)

any-append : {X : Type 0} (p : X → Bool) (xs ys : List X) → list_any p (xs ++ ys) ≡ (list_any p xs || list_any p ys)
any-append p [] ys = refl
any-append p (x ∷ xs) ys = elim (p x) as (λ b. (b || list_any p (xs ++ ys)) ≡ ((b || list_any p xs) || list_any p ys)) [ true ↦ refl | false ↦ any-append p xs ys ]

-- a key that is below those of all tables is that of none
none_has : (q : Key) (ts : List Table) → Above q ts → has q ts ≡ false
none_has q [] h = refl
none_has q (t ∷ ts) h = ap (λ o. is_eq o || has q ts) h.0 ∙ none_has q ts h.1

none_with : (q : Key) (ts : List Table) → Above q ts → rows_with q ts ≡ []
none_with q [] h = refl
none_with q (t ∷ ts) h =
    ap (λ o. flat_map (λ (u : Table). u.rows) (cond (is_eq o) (t ∷ filter (λ u. eq_by_cmp key_cmp q u.key) ts) (filter (λ u. eq_by_cmp key_cmp q u.key) ts))) h.0 ∙ none_with q ts h.1

-- the rows under a key, where the first table may have it
with_first : (q : Key) (t : Table) (ts : List Table) → rows_with q (t ∷ ts) ≡ cond (eq_by_cmp key_cmp q t.key) (t.rows ++ rows_with q ts) (rows_with q ts)
with_first q t ts =
    elim (eq_by_cmp key_cmp q t.key) as (λ b. flat_map (λ (u : Table). u.rows) (cond b (t ∷ filter (λ u. eq_by_cmp key_cmp q u.key) ts) (filter (λ u. eq_by_cmp key_cmp q u.key) ts))
    ≡ cond b (t.rows ++ rows_with q ts) (rows_with q ts)) [ true ↦ refl | false ↦ refl ]

-- ---- an entry before others

all-put : (P : Key × Two → Type 0) (k : Key) (v : Two) (es : List (Key × Two)) → P (k, v) → AllByRecursion P es → AllByRecursion P (put key_cmp k v es)
all-put P k v [] g h = (g, tt)
all-put P k v (e ∷ es) g h =
    elim (key_cmp k e.0) as (λ o. key_cmp k e.0 ≡ o → AllByRecursion P (by_order o ((k, v) ∷ e ∷ es) ((e.0, v) ∷ es) (e ∷ put key_cmp k v es))) [
      | Less ↦ λ o. (g, h)
      | Equal ↦ λ o. (subst (λ (q : Key). P (q, v)) (key_same k e.0 o) g, h.1)
      | Greater ↦ λ o. (h.0, all-put P k v es g h.1)
    ] refl

none_of : {X : Type 0} (es : List X) → length es ≡ 0 → es ≡ []
none_of [] n = refl
none_of (e ∷ es) n = absurd (omega arith)

no_entries : fin.entries (fin.empty {X = Two} {R = key_cmp}) ≡ []
no_entries = none_of _ (sym (fin.len-entries _) ∙ fin.len-empty key_cmp Two)

-- what holds of entries holds of those of the map that they make
pub all-from : (P : Key × Two → Type 0) (es : List (Key × Two)) → AllByRecursion P es → AllByRecursion P (fin.entries (fin.from_entries {R = key_cmp} es))
all-from P [] h = subst (AllByRecursion P) (sym no_entries) tt
all-from P (e ∷ es) h = subst (AllByRecursion P) (sym (fin.entries-insert key_cmp_total (fin.from_entries es) e.0 e.1)) (all-put P e.0 e.1 _ h.0 (all-from P es h.1))

put_before : (k : Key) (v : Two) (es : List (Key × Two)) → AllByRecursion (λ (e : Key × Two). key_cmp k e.0 ≡ Less) es → put key_cmp k v es ≡ (k, v) ∷ es
put_before k v [] h = refl
put_before k v (e ∷ es) h = ap (λ o. by_order o ((k, v) ∷ e ∷ es) ((e.0, v) ∷ es) (e ∷ put key_cmp k v es)) h.0

all-keys : (P : Key → Type 0) (f : Key → Two) (ts : List Table) → AllByRecursion P (map (λ t. t.key) ts) → AllByRecursion (λ (e : Key × Two). P e.0) (map (λ t. (t.key, f t.key)) ts)
all-keys P f [] h = tt
all-keys P f (t ∷ ts) h = (h.0, all-keys P f ts h.1)

above_both : (k : Key) (ls rs : List Table) → Above k ls → Above k rs → Above k (ls ++ rs)
above_both k [] rs g h = h
above_both k (l ∷ ls) rs g h = (g.0, above_both k ls rs g.1 h)

met_above : (k : Key) (ls rs : List Table) → Above k ls → Above k rs → AllByRecursion (λ (e : Key × Two). key_cmp k e.0 ≡ Less) (fin.entries (met_under ls rs))
unfolding met_under
met_above k ls rs g h =
    all-from (λ e. key_cmp k e.0 ≡ Less) _ (all-keys (λ q. key_cmp k q ≡ Less) (λ q. (rows_with q ls, rows_with q rs)) (ls ++ rs) (above_both k ls rs g h))

-- what is met under the lowest key, and under all others
first_met : (k : Key) (xs ys : Rows) (ls rs more_ls more_rs : List Table) → Above k ls → Above k rs
    → ((q : Key) → fin.get (met_under more_ls more_rs) q ≡ cond (eq_by_cmp key_cmp q k) (Some (xs, ys)) (fin.get (met_under ls rs) q))
    → meetings more_ls more_rs ≡ record { key = k; lefts = xs; rights = ys } ∷ meetings ls rs
first_met k xs ys ls rs more_ls more_rs g h gets =
    let two : Two = (xs, ys) in
    let whole : met_under more_ls more_rs ≡ fin.insert (met_under ls rs) k two
    = fin.same_map key_cmp_total key_same _ _ (λ q. gets q ∙ sym (fin.get-insert key_cmp_total (met_under ls rs) k two q)) in
    ap (λ (m : FinMap key_cmp Two). map meeting_of (fin.entries m)) whole
    ∙ ap (map meeting_of) (fin.entries-insert key_cmp_total (met_under ls rs) k two ∙ put_before k two (fin.entries (met_under ls rs)) (met_above k ls rs g h))

-- ---- which side has it

with_none : (q : Key) (t : Table) (ts : List Table) → eq_by_cmp key_cmp q t.key ≡ true → Above t.key ts → rows_with q ts ≡ []
with_none q t ts b above = none_with q ts (subst (λ (k : Key). Above k ts) (sym (key_same q t.key ((Equal-is _).0 b))) above)

only_rows : (q : Key) (t : Table) (ts : List Table) → Above t.key ts → eq_by_cmp key_cmp q t.key ≡ true → rows_with q (t ∷ ts) ≡ t.rows
only_rows q t ts above b =
    with_first q t ts ∙ ap (λ c. cond c (t.rows ++ rows_with q ts) (rows_with q ts)) b
    ∙ ap (λ (rows : Rows). t.rows ++ rows) (with_none q t ts b above) ∙ append-nil t.rows

-- the left one
pub left_first : (l : Table) (ls rs : List Table) → Above l.key ls → Above l.key rs
    → meetings (l ∷ ls) rs ≡ record { key = l.key; lefts = l.rows; rights = [] } ∷ meetings ls rs
left_first l ls rs g h =
    first_met l.key l.rows [] ls rs (l ∷ ls) rs g h
    (λ q. get-met (l ∷ ls) rs q
    ∙ elim (eq_by_cmp key_cmp q l.key) as (λ b. eq_by_cmp key_cmp q l.key ≡ b
    → cond (b || has q (ls ++ rs)) (Some (rows_with q (l ∷ ls), rows_with q rs)) None ≡ cond b (Some (l.rows, [])) (fin.get (met_under ls rs) q)) [
      | true ↦ λ b. (λ i. Some (only_rows q l ls g b i, with_none q l rs b h i))
      | false ↦ λ b.
          (λ i. cond (has q (ls ++ rs)) (Some ((with_first q l ls ∙ ap (λ c. cond c (l.rows ++ rows_with q ls) (rows_with q ls)) b) i, rows_with q rs)) None)
          ∙ sym (get-met ls rs q)
    ] refl)

-- a key that is none of the first table's
apart : (q : Key) (ls : List Table) (r : Table) (rs : List Table) → has q (ls ++ r ∷ rs) ≡ (has q ls || (eq_by_cmp key_cmp q r.key || has q rs))
apart q ls r rs = any-append (λ t. eq_by_cmp key_cmp q t.key) ls (r ∷ rs)

or_true : (a : Bool) → (a || true) ≡ true
or_true true = refl
or_true false = refl

-- the right one
pub right_first : (r : Table) (ls rs : List Table) → Above r.key ls → Above r.key rs
    → meetings ls (r ∷ rs) ≡ record { key = r.key; lefts = []; rights = r.rows } ∷ meetings ls rs
right_first r ls rs g h =
    first_met r.key [] r.rows ls rs ls (r ∷ rs) g h
    (λ q. get-met ls (r ∷ rs) q ∙ (λ i. cond (apart q ls r rs i) (Some (rows_with q ls, rows_with q (r ∷ rs))) None)
    ∙ elim (eq_by_cmp key_cmp q r.key) as (λ b. eq_by_cmp key_cmp q r.key ≡ b
    → cond (has q ls || (b || has q rs)) (Some (rows_with q ls, rows_with q (r ∷ rs))) None ≡ cond b (Some ([], r.rows)) (fin.get (met_under ls rs) q)) [
      | true ↦ λ b. (λ i. cond (or_true (has q ls) i) (Some (with_none q r ls b g i, only_rows q r rs h b i)) None)
      | false ↦ λ b.
          (λ i. cond (sym (any-append (λ t. eq_by_cmp key_cmp q t.key) ls rs) i)
          (Some (rows_with q ls, (with_first q r rs ∙ ap (λ c. cond c (r.rows ++ rows_with q rs) (rows_with q rs)) b) i)) None)
          ∙ sym (get-met ls rs q)
    ] refl)

-- both of them
pub both_first : (l r : Table) (ls rs : List Table) → key_cmp l.key r.key ≡ Equal → Above l.key ls → Above r.key rs
    → meetings (l ∷ ls) (r ∷ rs) ≡ record { key = l.key; lefts = l.rows; rights = r.rows } ∷ meetings ls rs
both_first l r ls rs tie g h =
    let same : l.key ≡ r.key = key_same l.key r.key tie in
    let h' : Above l.key rs = subst (λ (k : Key). Above k rs) (sym same) h in
    first_met l.key l.rows r.rows ls rs (l ∷ ls) (r ∷ rs) g h'
    (λ q. get-met (l ∷ ls) (r ∷ rs) q ∙ (λ i. cond (eq_by_cmp key_cmp q l.key || apart q ls r rs i) (Some (rows_with q (l ∷ ls), rows_with q (r ∷ rs))) None)
    ∙ elim (eq_by_cmp key_cmp q l.key) as (λ b. eq_by_cmp key_cmp q l.key ≡ b
    → cond (b || (has q ls || (eq_by_cmp key_cmp q r.key || has q rs))) (Some (rows_with q (l ∷ ls), rows_with q (r ∷ rs))) None
    ≡ cond b (Some (l.rows, r.rows)) (fin.get (met_under ls rs) q)) [
      | true ↦ λ b. (λ i. Some (only_rows q l ls g b i, only_rows q r rs h (ap (λ (k : Key). eq_by_cmp key_cmp q k) (sym same) ∙ b) i))
      | false ↦ λ b.
          let c : eq_by_cmp key_cmp q r.key ≡ false = ap (λ (k : Key). eq_by_cmp key_cmp q k) (sym same) ∙ b in
          (λ i. cond (has q ls || (c i || has q rs)) (Some (
            (with_first q l ls ∙ ap (λ d. cond d (l.rows ++ rows_with q ls) (rows_with q ls)) b) i,
            (with_first q r rs ∙ ap (λ d. cond d (r.rows ++ rows_with q rs) (rows_with q rs)) c) i,
          )) None)
          ∙ (λ i. cond (sym (any-append (λ t. eq_by_cmp key_cmp q t.key) ls rs) i) (Some (rows_with q ls, rows_with q rs)) None)
          ∙ sym (get-met ls rs q)
    ] refl)

-- no tables do not meet
pub none_meet : meetings [] [] ≡ []
unfolding met_under
none_meet = ap (map meeting_of) no_entries

-- ---- the first tables of each side, where the keys of both rise

above_more : (k l : Key) (ts : List Table) → key_cmp k l ≡ Less → Above l ts → Above k ts
above_more k l [] below h = tt
above_more k l (t ∷ ts) below h = (key_cmp_total.trans k l t.key below h.0, above_more k l ts below h.1)

above_rest : (t : Table) (ts : List Table) → Rise (t ∷ ts) → Above t.key ts
unfolding IsStrictlySortedBy
above_rest t ts h = h.0

pub rise_rest : (all : List Table) (t : Table) (ts : List Table) → all ≡ t ∷ ts → Rise all → Rise ts
unfolding IsStrictlySortedBy
rise_rest all t ts is h = let whole : Rise (t ∷ ts) = subst Rise is h in whole.1

above_all : (k : Key) (t : Table) (ts : List Table) → key_cmp k t.key ≡ Less → Rise (t ∷ ts) → Above k (t ∷ ts)
above_all k t ts below h = (below, above_more k t.key ts below (above_rest t ts h))

-- where neither side has a table, nothing meets
pub none_step : (ls rs : List Table) → lower ls rs ≡ None → meetings ls rs ≡ []
none_step [] [] is = none_meet
none_step [] (r ∷ rs) is = cc
none_step (l ∷ ls) [] is = cc
none_step (l ∷ ls) (r ∷ rs) is = cc

left_by : (l : Table) (ls rs : List Table) → lower (l ∷ ls) rs ≡ Some Less → Rise (l ∷ ls) → Rise rs
    → meetings (l ∷ ls) rs ≡ record { key = l.key; lefts = l.rows; rights = [] } ∷ meetings ls rs
left_by l ls [] is g h = left_first l ls [] (above_rest l ls g) tt
left_by l ls (r ∷ rs) is g h =
    let below : key_cmp l.key r.key ≡ Less = cc in
    left_first l ls (r ∷ rs) (above_rest l ls g) (above_all l.key r rs below h)

right_by : (r : Table) (ls rs : List Table) → lower ls (r ∷ rs) ≡ Some Greater → Rise ls → Rise (r ∷ rs)
    → meetings ls (r ∷ rs) ≡ record { key = r.key; lefts = []; rights = r.rows } ∷ meetings ls rs
right_by r [] rs is g h = right_first r [] rs tt (above_rest r rs h)
right_by r (l ∷ ls) rs is g h =
    let above : key_cmp l.key r.key ≡ Greater = cc in
    right_first r (l ∷ ls) rs (above_all r.key l ls (key_cmp_total.antisymm r.key l.key ∙ ap ordering_reverse above) g) (above_rest r rs h)

both_by : (l r : Table) (ls rs : List Table) → lower (l ∷ ls) (r ∷ rs) ≡ Some Equal → Rise (l ∷ ls) → Rise (r ∷ rs)
    → meetings (l ∷ ls) (r ∷ rs) ≡ record { key = l.key; lefts = l.rows; rights = r.rows } ∷ meetings ls rs
both_by l r ls rs is g h =
    let tie : key_cmp l.key r.key ≡ Equal = cc in
    both_first l r ls rs tie (above_rest l ls g) (above_rest r rs h)

module _ (left right : List Table) (g : Rise left) (h : Rise right) where
  pub left_step : (l : Table) (ls : List Table) (none : Rows) → left ≡ l ∷ ls → none ≡ [] → lower left right ≡ Some Less
      → meetings left right ≡ record { key = l.key; lefts = l.rows; rights = none } ∷ meetings ls right
  left_step l ls none is nothing less =
      ap (λ ts. meetings ts right) is ∙ left_by l ls right (subst (λ ts. lower ts right ≡ Some Less) is less) (subst Rise is g) h
      ∙ (λ i. record { key = l.key; lefts = l.rows; rights = sym nothing i } ∷ meetings ls right)

  pub right_step : (r : Table) (rs : List Table) (none : Rows) → right ≡ r ∷ rs → none ≡ [] → lower left right ≡ Some Greater
      → meetings left right ≡ record { key = r.key; lefts = none; rights = r.rows } ∷ meetings left rs
  right_step r rs none is nothing greater =
      ap (meetings left) is ∙ right_by r left rs (subst (λ ts. lower left ts ≡ Some Greater) is greater) g (subst Rise is h)
      ∙ (λ i. record { key = r.key; lefts = sym nothing i; rights = r.rows } ∷ meetings left rs)

  pub both_step : (l r : Table) (ls rs : List Table) → left ≡ l ∷ ls → right ≡ r ∷ rs → lower left right ≡ Some Equal
      → meetings left right ≡ record { key = l.key; lefts = l.rows; rights = r.rows } ∷ meetings ls rs
  both_step l r ls rs is_left is_right tie =
      (λ i. meetings (is_left i) (is_right i))
      ∙ both_by l r ls rs (subst (λ ts. lower ts (r ∷ rs) ≡ Some Equal) is_left (subst (λ ts. lower left ts ≡ Some Equal) is_right tie)) (subst Rise is_left g) (subst Rise is_right h)

-- the keys of what meets have rising labels, where those of the tables do

all_rising : (ts : List Table) → AllByRecursion IsLawfulTable ts → AllByRecursion HasRisingLabels (map (λ t. t.key) ts)
all_rising [] h = tt
all_rising (t ∷ ts) h = (h.0.rising, all_rising ts h.1)

all_keyed : (es : List (Key × Two)) → AllByRecursion (λ (e : Key × Two). HasRisingLabels e.0) es → AllByRecursion (λ (m : Meeting). HasRisingLabels m.key) (map meeting_of es)
all_keyed [] h = tt
all_keyed (e ∷ es) h = (h.0, all_keyed es h.1)

pub meetings_rise : (ls rs : List Table) → AllByRecursion IsLawfulTable ls → AllByRecursion IsLawfulTable rs → AllByRecursion (λ (m : Meeting). HasRisingLabels m.key) (meetings ls rs)
unfolding met_under
meetings_rise ls rs g h =
    all_keyed _ (all-from (λ e. HasRisingLabels e.0) _ (all-keys HasRisingLabels (λ q. (rows_with q ls, rows_with q rs)) (ls ++ rs) (all_rising (ls ++ rs) (all-append IsLawfulTable ls rs g h))))
