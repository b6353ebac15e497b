-- A head as the map of its slots.
use Rattle.std.proofs.Common.{◌≡◌, ℕ, Bool, true, false, T, List, [], ◌∷◌, map, length, get_or, take, drop, zero, suc, ◌+◌, ◌<◌, ◌++◌, filter_map, refl, sym, ap, subst, ◌∙◌, arith, drop-cons}
use Rattle.std.specs.Prelude.{cond, ◌&&◌, ◌||◌, not, Option, None, Some, IsTrue, ◌↔◌}
use Rattle.std.specs.Cmp.Lexicographic.{texts_ties, pointwise, pointwise_decides, bytes_decides, nat_list_cmp_total}
use Rattle.std.specs.Ordering.{eq_by_cmp, is_eq, is_lt}
use Rattle.std.specs.declared.cmp.Ordering.{Ordering}
use Rattle.std.specs.declared.cmp.Ordering.TheVariants.{Less, Equal, Greater}
use Rattle.std.proofs.lemmas.Float.{T_from_true}
use Rattle.std.specs.Cmp.{Equal-is, eq_by_cmp_equiv, alike_right}
use Rattle.std.specs.FinMap as fin
use Rattle.std.specs.FinMap.{FinMap}
use Rattle.std.specs.FinMap.Entries.{find, find-where_key, put, where_key, below_all, is_sorted, is_sorted-put, is_sorted-where_key}
use Rattle.fx_base.specs.Text.{text_cmp, same_text}
use Rattle.fx_value.specs.Row.{IsOnly}
use Rattle.fx_value.proofs.Rows.{text_same}
use Rattle.std.proofs.lemmas.List.{get_or_default, take_more, map-append}
use Rattle.std.proofs.lemmas.List.Elements.{filter_map-append}
use Rattle.fx_value.specs.Row.{shared_cell, shared}
use Rattle.fx_value.specs.Slots.{entry_of, entries_of, labels_of, is_alone, others, IsRising, IsFoundAt}
use Rattle.fx_value.specs.declared.slot.Slot.{Slot}
use Rattle.fx_value.specs.declared.source.Source.{Source}

-- no slots are the empty map
pub no_slots : (cs : List Slot) → cs ≡ [] → fin.from_sorted {R = text_cmp} (entries_of cs) ≡ fin.empty
no_slots cs e =
    fin.empty_of_len _ (fin.len-entries _ ∙ ap length (ap (λ ds. fin.entries (fin.from_sorted {R = text_cmp} (entries_of ds))) e ∙ fin.entries-from_sorted text_cmp [] tt))

keys-entries_of : (cs : List Slot) → map (λ e. e.0) (entries_of cs) ≡ labels_of cs
keys-entries_of [] = refl
keys-entries_of (c ∷ cs) = ap (λ ks. c.label ∷ ks) (keys-entries_of cs)

-- lists of texts are equal exactly where a scan finds each pair equal
pub texts_decide : (ks ls : List (List ℕ)) (r : Bool) → r ≡ pointwise same_text ks ls → IsTrue r ↔ (ks ≡ ls)
texts_decide ks ls r is =
    let same = pointwise_decides bytes_decides ks ls in
    (λ t. same.0 (sym is ∙ t), λ e. is ∙ same.1 e)

module _ (cs : List Slot) (head : FinMap text_cmp Source) (view : fin.from_sorted (entries_of cs) ≡ head) (rising : IsRising (entries_of cs)) where
  -- the labels of the slots are the head's keys
  pub labels_are : labels_of cs ≡ fin.keys head
  labels_are =
      sym (keys-entries_of cs) ∙ ap (map (λ e. e.0)) (sym (fin.entries-from_sorted text_cmp (entries_of cs) rising)) ∙ ap fin.keys view

  -- the shared cells of the slots are the head's
  pub shared_are : filter_map shared_cell (entries_of cs) ≡ shared head
  shared_are = ap (filter_map shared_cell) (sym (fin.entries-from_sorted text_cmp (entries_of cs) rising) ∙ ap fin.entries view)

  -- what the slots have at a label is what the head answers
  pub get_found : (k : List ℕ) (o : Option Source) → find text_cmp k (entries_of cs) ≡ o → o ≡ fin.get head k
  get_found k o is = sym is ∙ sym (fin.get-from_sorted text_cmp (entries_of cs) k rising) ∙ ap (λ m. fin.get m k) view

  module _ (ds : List Slot) (k : List ℕ) (s : Source) (made : entries_of ds ≡ put text_cmp k s (entries_of cs)) where
    pub still_rising : IsRising (entries_of ds)
    still_rising = subst (λ es. T (is_sorted text_cmp es)) (sym made) (is_sorted-put text_cmp nat_list_cmp_total k s (entries_of cs) rising)

    -- to put an entry is to insert it into the head
    pub inserted : fin.from_sorted (entries_of ds) ≡ fin.insert head k s
    inserted =
        fin.same_entries_map _ _ (fin.entries-from_sorted text_cmp (entries_of ds) still_rising ∙ made
        ∙ ap (put text_cmp k s) (sym (fin.entries-from_sorted text_cmp (entries_of cs) rising))
        ∙ sym (fin.entries-insert nat_list_cmp_total (fin.from_sorted (entries_of cs)) k s))
        ∙ ap (λ m. fin.insert m k s) view

-- ---- what is asked of all slots

first_so : (a b : Bool) → (a && b) ≡ true → a ≡ true
first_so true b h = refl
first_so false b h = cc

second_so : (a b : Bool) → (a && b) ≡ true → b ≡ true
second_so true b h = h
second_so false b h = cc

said : (t b : Bool) → t ≡ true → (not t || b) ≡ true → b ≡ true
said true b is h = h
said false b is h = cc

-- where only one label's slots pass a test, a label whose source passes it is that label
pub alone : (test : Source → Bool) (k q : List ℕ) (s : Source) (cs : List Slot) → test s ≡ true → is_alone test k cs ≡ true
    → find text_cmp q (entries_of cs) ≡ Some s → q ≡ k
alone test k q s [] is h at = cc
alone test k q s (c ∷ cs) is h at =
    elim (eq_by_cmp text_cmp q c.label) as (λ t. eq_by_cmp text_cmp q c.label ≡ t → cond t (Some c.source) (find text_cmp q (entries_of cs)) ≡ Some s → q ≡ k) [
      | true ↦ λ t at.
          let source : c.source ≡ s = cc in
          text_same q c.label ((Equal-is _).0 t)
          ∙ (bytes_decides c.label k).0 (said (test c.source) _ (ap test source ∙ is) (first_so _ _ h))
      | false ↦ λ t at. alone test k q s cs is (second_so _ _ h) at
    ] refl at

turned : {A : Type 0} (b : Bool) (x y : A) → cond (not b) x y ≡ cond b y x
turned true x y = refl
turned false x y = refl

-- the test by texts is the test by their order
same_by_cmp : (a b : List ℕ) → same_text a b ≡ eq_by_cmp text_cmp b a
same_by_cmp a b = texts_ties a b ∙ (eq_by_cmp_equiv nat_list_cmp_total).symm a b

entries-others : (k : List ℕ) (cs : List Slot) → entries_of (others k cs) ≡ where_key text_cmp (λ q. not (eq_by_cmp text_cmp k q)) (entries_of cs)
entries-others k [] = refl
entries-others k (c ∷ cs) =
    ap (λ t. entries_of (cond (not t) (c ∷ others k cs) (others k cs))) (same_by_cmp c.label k)
    ∙ elim (eq_by_cmp text_cmp k c.label) as (λ t. entries_of (cond (not t) (c ∷ others k cs) (others k cs)) ≡ cond (not t) (entry_of c ∷ where_key text_cmp (λ q. not (eq_by_cmp text_cmp k q)) (entries_of cs)) (where_key text_cmp (λ q. not (eq_by_cmp text_cmp k q)) (entries_of cs))) [
      | true ↦ entries-others k cs
      | false ↦ ap (λ es. entry_of c ∷ es) (entries-others k cs)
    ]

module _ (cs : List Slot) (head : FinMap text_cmp Source) (view : fin.from_sorted (entries_of cs) ≡ head) (rising : IsRising (entries_of cs)) where
  -- a source that a label has alone
  pub is_only : (test : Source → Bool) (k : List ℕ) (s : Source) → test s ≡ true → is_alone test k cs ≡ true → Some s ≡ fin.get head k → IsOnly head k s
  is_only test k s is h at = record {
    has = sym at;
    only = λ q e. alone test k q s cs is h (sym (fin.get-from_sorted text_cmp (entries_of cs) q rising) ∙ ap (λ m. fin.get m q) view ∙ e);
  }

  module _ (ds : List Slot) (k : List ℕ) (made : ds ≡ others k cs) where
    kept : entries_of ds ≡ where_key text_cmp (λ q. not (eq_by_cmp text_cmp k q)) (entries_of cs)
    kept = ap entries_of made ∙ entries-others k cs

    pub rising_without : IsRising (entries_of ds)
    rising_without = subst (λ es. T (is_sorted text_cmp es)) (sym kept) (is_sorted-where_key text_cmp _ (entries_of cs) rising)

    -- to leave a label's slots out is to remove it from the head
    pub removed : fin.from_sorted (entries_of ds) ≡ fin.remove head k
    removed =
        fin.same_map nat_list_cmp_total text_same _ _ (λ q.
        fin.get-from_sorted text_cmp (entries_of ds) q rising_without ∙ ap (find text_cmp q) kept
        ∙ find-where_key text_cmp (λ x. not (eq_by_cmp text_cmp k x)) q (λ x t. ap (λ r. not (is_eq r)) (sym (alike_right nat_list_cmp_total q x k t))) (entries_of cs)
        ∙ turned (eq_by_cmp text_cmp k q) _ _
        ∙ ap (λ (b : Bool). cond b None (find text_cmp q (entries_of cs))) ((eq_by_cmp_equiv nat_list_cmp_total).symm k q)
        ∙ ap (λ (o : Option Source). cond (eq_by_cmp text_cmp q k) None o) (sym (fin.get-from_sorted text_cmp (entries_of cs) q rising) ∙ ap (λ m. fin.get m q) view)
        ∙ sym (fin.get-remove nat_list_cmp_total head k q))

-- ---- the cells that all rows share

-- one slot more
pub shared_more : (cs : List Slot) (i : ℕ) (s : Slot) → i < length cs → s ≡ get_or cs i s → filter_map shared_cell (entries_of (take i cs)) ++ filter_map shared_cell (entry_of s ∷ []) ≡ filter_map shared_cell (entries_of (take (i + 1) cs))
shared_more cs i s below is = rw (take_more cs i s below, ← is, map-append, filter_map-append) refl

-- ---- the place of a label

-- the slot at a place has the label
pub found_here : (cs : List Slot) (k : List ℕ) (i : ℕ) (c : Slot) → i < length cs → c ≡ get_or cs i c → same_text c.label k ≡ true
    → find text_cmp k (entries_of cs) ≡ find text_cmp k (entries_of (drop i cs)) → IsFoundAt cs k i
found_here cs k i c within is same ahead = record {
  within = within;
  source = λ d.
      ahead ∙ ap (λ ds. find text_cmp k (entries_of ds)) (drop-cons cs i d within)
      ∙ ap (λ b. cond b (Some (get_or cs i d).source) (find text_cmp k (entries_of (drop (suc i) cs)))) (sym (same_by_cmp (get_or cs i d).label k) ∙ ap (λ (s : Slot). same_text s.label k) (get_or_default cs i d c within ∙ sym is) ∙ same);
}

-- the slot at a place has another label
pub found_later : (cs : List Slot) (k : List ℕ) (i : ℕ) (c : Slot) → i < length cs → c ≡ get_or cs i c → same_text c.label k ≡ false
    → find text_cmp k (entries_of cs) ≡ find text_cmp k (entries_of (drop i cs)) → find text_cmp k (entries_of cs) ≡ find text_cmp k (entries_of (drop (i + 1) cs))
found_later cs k i c within is other ahead =
    ahead ∙ ap (λ ds. find text_cmp k (entries_of ds)) (drop-cons cs i c within)
    ∙ ap (λ b. cond b (Some (get_or cs i c).source) (find text_cmp k (entries_of (drop (suc i) cs)))) (sym (same_by_cmp (get_or cs i c).label k) ∙ ap (λ (s : Slot). same_text s.label k) (sym is) ∙ other)
    ∙ (let next : suc i ≡ i + 1 = omega arith in ap (λ n. find text_cmp k (entries_of (drop n cs))) next)

is_true : (b : Bool) → T b → b ≡ true
is_true true t = refl
is_true false t = absurd t

-- what stands behind a label among labels that rise is above it
above : (x k : List ℕ) (cs : List Slot) (i : ℕ) (d : Slot) → T (below_all text_cmp x (entries_of cs)) → i < length cs
    → same_text (get_or cs i d).label k ≡ true → is_lt (text_cmp x k) ≡ true
above x k [] i d b within same = absurd (omega arith)
above x k (c ∷ cs) zero d b within same =
    ap (λ q. is_lt (text_cmp x q)) (sym ((bytes_decides c.label k).0 same)) ∙ first_so _ _ (is_true _ b)
above x k (c ∷ cs) (suc i) d b within same = above x k cs i d (T_from_true _ (second_so _ _ (is_true _ b))) (omega arith) same

no_tie : (o : Ordering) → is_lt o ≡ true → is_eq o ≡ false
no_tie Less h = refl
no_tie Equal h = cc
no_tie Greater h = cc

-- among labels that rise, the slot with the label is the first that has it
stands : (cs : List Slot) (k : List ℕ) (i : ℕ) (d : Slot) → IsRising (entries_of cs) → i < length cs
    → same_text (get_or cs i d).label k ≡ true → find text_cmp k (entries_of cs) ≡ Some (get_or cs i d).source
stands [] k i d rising within same = absurd (omega arith)
stands (c ∷ cs) k zero d rising within same =
    ap (λ b. cond b (Some c.source) (find text_cmp k (entries_of cs))) (sym (same_by_cmp c.label k) ∙ same)
stands (c ∷ cs) k (suc i) d rising within same =
    ap (λ b. cond b (Some c.source) (find text_cmp k (entries_of cs)))
    ((eq_by_cmp_equiv nat_list_cmp_total).symm k c.label
    ∙ no_tie (text_cmp c.label k) (above c.label k cs i d (T_from_true _ (first_so _ _ (is_true _ rising))) (omega arith) same))
    ∙ stands cs k i d (T_from_true _ (second_so _ _ (is_true _ rising))) (omega arith) same

pub found_by_order : (cs : List Slot) (k : List ℕ) (i : ℕ) (c : Slot) → IsRising (entries_of cs) → i < length cs → c ≡ get_or cs i c
    → same_text c.label k ≡ true → IsFoundAt cs k i
found_by_order cs k i c rising within is same = record {
  within = within;
  source = λ d. stands cs k i d rising within (ap (λ (s : Slot). same_text s.label k) (get_or_default cs i d c within ∙ sym is) ∙ same);
}
