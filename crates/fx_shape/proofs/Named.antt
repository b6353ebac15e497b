-- Maps that are made anew label by label.
use Rattle.std.proofs.Common.{◌≡◌, ℕ, ◌<◌, ◌+◌, Bool, true, false, T, List, [], ◌∷◌, map, length, get_or, drop, suc, refl, sym, ap, ◌∙◌, arith, drop-cons}
use Rattle.std.specs.Prelude.{cond, ◌&&◌, fold, Option, None, Some, if◌then◌else◌}
use Rattle.std.specs.declared.cmp.Ordering.{Ordering}
use Rattle.std.specs.declared.cmp.Ordering.TheVariants.{Less, Equal, Greater}
use Rattle.std.specs.Cmp.{Equal-is, eq_by_cmp_equiv}
use Rattle.std.specs.Cmp.Lexicographic.{nat_list_cmp_total}
use Rattle.std.specs.FinMap as fin
use Rattle.std.specs.FinMap.{FinMap}
use Rattle.std.specs.FinMap.Entries.{below_all, find, find-where_key, is_sorted, is_sorted-where_key, same_entries, where_key}
use Rattle.std.specs.List.{AllByRecursion}
use Rattle.std.specs.Ordering.{eq_by_cmp, is_eq, is_lt}
use Rattle.fx_base.specs.Text.{same_text, text_cmp}
use Rattle.fx_value.proofs.Rows.{text_same}
use Rattle.fx_group.specs.Answer.{Row}
use Rattle.fx_shape.specs.Columns.{Label}
use Rattle.fx_shape.specs.Naming.{name, stays, IsPlain}
use Rattle.fx_shape.specs.Relabelled.{put_as, put_label, put_there, relabelled}
use Rattle.fx_shape.specs.Rename.{new_name}
use Rattle.fx_shape.specs.declared.naming.Naming.{Naming}
use Rattle.fx_shape.specs.declared.naming.Naming.TheVariants as naming

-- ---- entries that rise

left_so : (a b : Bool) → T (a && b) → T a
left_so true b h = tt
left_so false b h = absurd h

right_so : (a b : Bool) → T (a && b) → T b
right_so true b h = h
right_so false b h = absurd h

no_tie : (o : Ordering) → T (is_lt o) → is_eq o ≡ false
no_tie Less h = refl
no_tie Equal h = absurd h
no_tie Greater h = absurd h

module _ {A : Type 0} where
  -- a label below all others is none of them
  none_below : (k : Label) (es : List (Label × A)) → T (below_all text_cmp k es) → find text_cmp k es ≡ None
  none_below k [] h = refl
  none_below k (e ∷ es) h =
      ap (λ b. cond b (Some e.1) (find text_cmp k es)) (no_tie (text_cmp k e.0) (left_so _ _ h)) ∙ none_below k es (right_so _ _ h)

  Found : List (Label × A) → List (Label × A) → Type 0
  Found es = AllByRecursion (λ e. find text_cmp e.0 es ≡ Some e.1)

  behind : (x : Label × A) (es fs : List (Label × A)) → T (below_all text_cmp x.0 fs) → Found es fs → Found (x ∷ es) fs
  unfolding Found
  behind x es [] below h = tt
  behind x es (f ∷ fs) below h = (
    ap (λ b. cond b (Some x.1) (find text_cmp f.0 es)) ((eq_by_cmp_equiv nat_list_cmp_total).symm f.0 x.0 ∙ no_tie (text_cmp x.0 f.0) (left_so _ _ below)) ∙ h.0,
    behind x es fs (right_so _ _ below) h.1,
  )

  -- each of them is found
  all_found : (es : List (Label × A)) → T (is_sorted text_cmp es) → Found es es
  unfolding Found
  all_found [] h = tt
  all_found (e ∷ es) h = (
    ap (λ b. cond b (Some e.1) (find text_cmp e.0 es)) ((eq_by_cmp_equiv nat_list_cmp_total).refl e.0),
    behind e es es (left_so _ _ h) (all_found es (right_so _ _ h)),
  )

  -- ---- label by label

  module _ (keeps : Label → Bool) (names : Label → Label) (m : FinMap text_cmp A) where
    one_put : (out : FinMap text_cmp A) (e : Label × A) (b : Bool) (rest : List (Label × A)) → fin.get m e.0 ≡ Some e.1
        → fold (put_as names) (if b then put_there (fin.get m e.0) (names e.0) out else out) rest ≡ fold (put_as names) out (cond b (e ∷ rest) rest)
    one_put out e true rest is = ap (λ o. fold (put_as names) (put_there o (names e.0) out) rest) is
    one_put out e false rest is = refl

    all_put : (es : List (Label × A)) (out : FinMap text_cmp A) → AllByRecursion (λ e. fin.get m e.0 ≡ Some e.1) es
        → fold (put_label keeps names m) out (map (λ e. e.0) es) ≡ fold (put_as names) out (where_key text_cmp keeps es)
    all_put [] out h = refl
    all_put (e ∷ es) out h = all_put es (put_label keeps names m out e.0) h.1 ∙ one_put out e (keeps e.0) (where_key text_cmp keeps es) h.0

  pub entries_left : (m : FinMap text_cmp A) (keeps : Label → Bool) → fin.entries (fin.retain_keys m keeps) ≡ where_key text_cmp keeps (fin.entries m)
  entries_left m keeps =
      let alike : (q x : Label) → text_cmp q x ≡ Equal → keeps x ≡ keeps q = λ q x tie. ap keeps (sym (text_same q x tie)) in
      same_entries text_cmp nat_list_cmp_total text_same _ _ (fin.entries_sorted (fin.retain_keys m keeps)) (is_sorted-where_key text_cmp keeps (fin.entries m) (fin.entries_sorted m))
      (λ q. sym (fin.get-entries (fin.retain_keys m keeps) q) ∙ fin.get-retain_keys m keeps q (alike q) ∙ ap (λ o. cond (keeps q) o None) (fin.get-entries m q)
      ∙ sym (find-where_key text_cmp keeps q (alike q) (fin.entries m)))

  got_each : (m : FinMap text_cmp A) (es : List (Label × A)) → Found (fin.entries m) es → AllByRecursion (λ e. fin.get m e.0 ≡ Some e.1) es
  unfolding Found
  got_each m [] h = tt
  got_each m (e ∷ es) h = (fin.get-entries m e.0 ∙ h.0, got_each m es h.1)

  -- to add what stands at each label of a map is to relabel it
  pub all_labels : (keeps : Label → Bool) (names : Label → Label) (m : FinMap text_cmp A) → fold (put_label keeps names m) fin.empty (fin.keys m) ≡ relabelled keeps names m
  all_labels keeps names m =
      all_put keeps names m (fin.entries m) fin.empty (got_each m (fin.entries m) (all_found (fin.entries m) (fin.entries_sorted m)))
      ∙ ap (fold (put_as names) fin.empty) (sym (entries_left m keeps))

  -- ---- labels that keep their names

  either : Option A → Option A → Option A
  either (Some x) o = Some x
  either None o = o

  one_built : (b : Bool) (v : A) (found o : Option A) → (b ≡ true → found ≡ None) → either found (cond b (Some v) o) ≡ either (cond b (Some v) found) o
  unfolding either
  one_built true v found o none = ap (λ (f : Option A). either f (Some v)) (none refl)
  one_built false v found o none = refl

  built_at : (es : List (Label × A)) (out : FinMap text_cmp A) (q : Label) → T (is_sorted text_cmp es)
      → fin.get (fold (put_as (λ label. label)) out es) q ≡ either (find text_cmp q es) (fin.get out q)
  unfolding either
  built_at [] out q h = refl
  built_at (e ∷ es) out q h =
      built_at es (fin.insert out e.0 e.1) q (right_so _ _ h)
      ∙ ap (either (find text_cmp q es)) (fin.get-insert nat_list_cmp_total out e.0 e.1 q)
      ∙ one_built (eq_by_cmp text_cmp q e.0) e.1 (find text_cmp q es) (fin.get out q)
      (λ t. ap (λ k. find text_cmp k es) (text_same q e.0 ((Equal-is _).0 t)) ∙ none_below e.0 es (left_so _ _ h))

  either_none : (o : Option A) → either o None ≡ o
  unfolding either
  either_none (Some x) = refl
  either_none None = refl

  pub same_names : (keeps : Label → Bool) (m : FinMap text_cmp A) → relabelled keeps (λ label. label) m ≡ fin.retain_keys m keeps
  same_names keeps m =
      let left = fin.retain_keys m keeps in
      fin.same_map nat_list_cmp_total text_same _ _ (λ q.
      built_at (fin.entries left) fin.empty q (fin.entries_sorted left)
      ∙ ap (either (find text_cmp q (fin.entries left))) (fin.get-empty text_cmp q)
      ∙ either_none (find text_cmp q (fin.entries left)) ∙ sym (fin.get-entries left q))

pub plain_row : (n : Naming) → IsPlain n → (row : Row) → relabelled (stays n) (name n) row ≡ fin.retain_keys row (stays n)
plain_row (naming.Listed columns) plain row = same_names (stays (naming.Listed columns)) row
plain_row (naming.Others columns) plain row = same_names (stays (naming.Others columns)) row
plain_row (naming.Renamed olds news) plain row = absurd plain

pub plain_rows : (n : Naming) → IsPlain n → (rows : List Row) → map (relabelled (stays n) (name n)) rows ≡ map (λ row. fin.retain_keys row (stays n)) rows
plain_rows n plain [] = refl
plain_rows n plain (row ∷ rows) = λ i. plain_row n plain row i ∷ plain_rows n plain rows i

-- ---- new names

pub named_later : (olds news : List Label) (label : Label) (i : ℕ) (old : Label) → i < length olds → i < length news → old ≡ get_or olds i old → same_text label old ≡ false
    → new_name olds news label ≡ new_name (drop i olds) (drop i news) label → new_name olds news label ≡ new_name (drop (i + 1) olds) (drop (i + 1) news) label
named_later olds news label i old within in_news is apart ahead =
    ahead ∙ (λ j. new_name (drop-cons olds i old within j) (drop-cons news i old in_news j) label)
    ∙ ap (λ b. if b then get_or news i old else new_name (drop (suc i) olds) (drop (suc i) news) label) (ap (same_text label) (sym is) ∙ apart)
    ∙ (let next : suc i ≡ i + 1 = omega arith in ap (λ n. new_name (drop n olds) (drop n news) label) next)

pub named_here : (olds news : List Label) (label : Label) (i : ℕ) (old new : Label) → i < length olds → i < length news → old ≡ get_or olds i old → new ≡ get_or news i new → same_text label old ≡ true
    → new_name olds news label ≡ new_name (drop i olds) (drop i news) label → new ≡ new_name olds news label
named_here olds news label i old new within in_news is named same ahead =
    named ∙ sym (ahead ∙ (λ j. new_name (drop-cons olds i old within j) (drop-cons news i new in_news j) label)
    ∙ ap (λ b. if b then get_or news i new else new_name (drop (suc i) olds) (drop (suc i) news) label) (ap (same_text label) (sym is) ∙ same))
