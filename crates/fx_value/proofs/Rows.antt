-- What a row of a head answers: a map over the values of the head's map.
use Rattle.std.proofs.Common.{◌≡◌, ℕ, ◌+◌, ◌<◌, Bool, true, false, T, List, [], ◌∷◌, ◌++◌, map, length, get_or, take, refl, sym, ap, subst, ◌∙◌}
use Rattle.std.proofs.lemmas.List.{take_more}
use Rattle.std.specs.Prelude.{◌&&◌, cond, Option, None, Some}
use Rattle.std.specs.Option.{option_map}
use Rattle.std.specs.Ordering.{is_lt, eq_by_cmp}
use Rattle.std.specs.Cmp.Lexicographic.{nat_list_cmp_total}
use Rattle.std.specs.Cmp.{Equal-is, eq_by_cmp_equiv}
use Rattle.std.specs.FinMap as fin
use Rattle.std.specs.FinMap.{FinMap, IsAntisymmetric}
use Rattle.std.specs.FinMap.Entries.{find, is_sorted, below_all}
use Rattle.fx_base.specs.Text.{text_cmp}
use Rattle.fx_value.specs.Row.{filled, row_of, IsOnly}
use Rattle.fx_value.specs.Source.{value_at}
use Rattle.fx_value.specs.Change.{changed, all_changed, changed_head, all_changed_head}
use Rattle.fx_value.specs.declared.change.Change.{Change}
use Rattle.fx_value.specs.declared.change.Change.TheVariants.{Set, Remove}
use Rattle.fx_value.specs.declared.scalar.Scalar.{Scalar}
use Rattle.fx_value.specs.declared.source.Source.{Source}
use Rattle.fx_value.specs.declared.source.Source.TheVariants.{Fixed, First, Second}

-- texts that tie are the same
pub text_same : IsAntisymmetric text_cmp
text_same = fin.slice_cmp-IsAntisymmetric fin.nat_cmp-IsAntisymmetric

apart : (q k : List ℕ) → eq_by_cmp text_cmp q k ≡ false → q ≡ k → ⊥
apart q k t e =
    let tie : eq_by_cmp text_cmp q k ≡ true = ap (eq_by_cmp text_cmp q) (sym e) ∙ (eq_by_cmp_equiv nat_list_cmp_total).refl q in
    cc

-- entries whose values are others
module _ {Y : Type 0} (f : Source → Y) where
  abbrev pub mapped : List (List ℕ × Source) → List (List ℕ × Y)
  mapped = map (λ e. (e.0, f e.1))

  below-mapped : (x : List ℕ) (es : List (List ℕ × Source)) → below_all text_cmp x (mapped es) ≡ below_all text_cmp x es
  below-mapped x [] = refl
  below-mapped x (e ∷ es) = ap (λ t. is_lt (text_cmp x e.0) && t) (below-mapped x es)

  pub sorted-mapped : (es : List (List ℕ × Source)) → is_sorted text_cmp (mapped es) ≡ is_sorted text_cmp es
  sorted-mapped [] = refl
  sorted-mapped (e ∷ es) = λ i. below-mapped e.0 es i && sorted-mapped es i

  pub find-mapped : (q : List ℕ) (es : List (List ℕ × Source)) → find text_cmp q (mapped es) ≡ option_map f (find text_cmp q es)
  find-mapped q [] = refl
  find-mapped q (e ∷ es) =
      elim (eq_by_cmp text_cmp q e.0) as (λ t. cond t (Some (f e.1)) (find text_cmp q (mapped es)) ≡ option_map f (cond t (Some e.1) (find text_cmp q es))) [
        | true ↦ refl
        | false ↦ find-mapped q es
      ]

  pub keys-mapped : (es : List (List ℕ × Source)) → map (λ e. e.0) (mapped es) ≡ map (λ e. e.0) es
  keys-mapped [] = refl
  keys-mapped (e ∷ es) = ap (λ ks. e.0 ∷ ks) (keys-mapped es)

module _ (a b : Scalar) where
  rising : (h : FinMap text_cmp Source) → T (is_sorted text_cmp (filled a b (fin.entries h)))
  rising h = subst T (sym (sorted-mapped (value_at a b) (fin.entries h))) (fin.entries_sorted h)

  pub entries-row_of : (h : FinMap text_cmp Source) → fin.entries (row_of h a b) ≡ filled a b (fin.entries h)
  unfolding row_of
  entries-row_of h = fin.entries-from_sorted text_cmp _ (rising h)

  -- the labels of a row are those of its head
  pub keys-row_of : (h : FinMap text_cmp Source) → fin.keys (row_of h a b) ≡ fin.keys h
  keys-row_of h = ap (map (λ e. e.0)) (entries-row_of h) ∙ keys-mapped (value_at a b) (fin.entries h)

  -- the value at a label is that of its source
  pub get-row_of : (h : FinMap text_cmp Source) (q : List ℕ) → fin.get (row_of h a b) q ≡ option_map (value_at a b) (fin.get h q)
  get-row_of h q =
      fin.get-entries _ q ∙ ap (find text_cmp q) (entries-row_of h) ∙ find-mapped (value_at a b) q (fin.entries h) ∙ ap (option_map (value_at a b)) (sym (fin.get-entries h q))

  map_chosen : (t : Bool) (s : Source) (o : Option Source) → option_map (value_at a b) (cond t (Some s) o) ≡ cond t (Some (value_at a b s)) (option_map (value_at a b) o)
  map_chosen true s o = refl
  map_chosen false s o = refl

  -- a head with one more label makes a row with one more value
  pub row_of-insert : (h : FinMap text_cmp Source) (k : List ℕ) (s : Source) → row_of (fin.insert h k s) a b ≡ fin.insert (row_of h a b) k (value_at a b s)
  row_of-insert h k s =
      fin.same_map nat_list_cmp_total text_same _ _ (λ q.
      get-row_of (fin.insert h k s) q
      ∙ ap (option_map (value_at a b)) (fin.get-insert nat_list_cmp_total h k s q)
      ∙ map_chosen (eq_by_cmp text_cmp q k) s (fin.get h q)
      ∙ ap (cond (eq_by_cmp text_cmp q k) (Some (value_at a b s))) (sym (get-row_of h q))
      ∙ sym (fin.get-insert nat_list_cmp_total (row_of h a b) k (value_at a b s) q))

  -- the head without labels makes the row without values
  pub row_of-empty : row_of fin.empty a b ≡ fin.empty
  row_of-empty =
      fin.same_map nat_list_cmp_total text_same _ _ (λ q.
      get-row_of fin.empty q ∙ ap (option_map (value_at a b)) (fin.get-empty text_cmp q) ∙ sym (fin.get-empty text_cmp q))

  -- what the head answers at a label is where the row's value is
  pub row_answers : (h : FinMap text_cmp Source) (m : FinMap text_cmp Scalar) (q : List ℕ) (o : Option Source) → row_of h a b ≡ m
      → o ≡ fin.get h q → option_map (value_at a b) o ≡ fin.get m q
  row_answers h m q o view is = ap (option_map (value_at a b)) is ∙ sym (get-row_of h q) ∙ ap (λ n. fin.get n q) view

  -- to give a label a source in the head is to give it that source's value in the row
  pub row_with : (h g : FinMap text_cmp Source) (m : FinMap text_cmp Scalar) (k : List ℕ) (s : Source) → row_of h a b ≡ m
      → g ≡ fin.insert h k s → row_of g a b ≡ fin.insert m k (value_at a b s)
  row_with h g m k s view is =
      ap (λ x. row_of x a b) is ∙ row_of-insert h k s ∙ ap (λ n. fin.insert n k (value_at a b s)) view

  map_without : (t : Bool) (o : Option Source) → option_map (value_at a b) (cond t None o) ≡ cond t None (option_map (value_at a b) o)
  map_without true o = refl
  map_without false o = refl

  -- a head without a label makes a row without it
  pub row_of-remove : (h : FinMap text_cmp Source) (k : List ℕ) → row_of (fin.remove h k) a b ≡ fin.remove (row_of h a b) k
  row_of-remove h k =
      fin.same_map nat_list_cmp_total text_same _ _ (λ q.
      get-row_of (fin.remove h k) q
      ∙ ap (option_map (value_at a b)) (fin.get-remove nat_list_cmp_total h k q)
      ∙ map_without (eq_by_cmp text_cmp q k) (fin.get h q)
      ∙ ap (λ o. cond (eq_by_cmp text_cmp q k) None o) (sym (get-row_of h q))
      ∙ sym (fin.get-remove nat_list_cmp_total (row_of h a b) k q))

  -- to change the head is to change the row
  row_changed : (change : Change) (h g : FinMap text_cmp Source) (m : FinMap text_cmp Scalar) → row_of h a b ≡ m
      → g ≡ changed_head change h → row_of g a b ≡ changed change m
  row_changed (Set label value) h g m view is = row_with h g m label (Fixed value) view is
  row_changed (Remove label) h g m view is = ap (λ x. row_of x a b) is ∙ row_of-remove h label ∙ ap (λ n. fin.remove n label) view

  -- so is to change the head more than once
  pub row_all_changed : (changes : List Change) (h g : FinMap text_cmp Source) (m : FinMap text_cmp Scalar) → row_of h a b ≡ m
      → g ≡ all_changed_head changes h → row_of g a b ≡ all_changed changes m
  row_all_changed [] h g m view is = ap (λ x. row_of x a b) is ∙ view
  row_all_changed (change ∷ changes) h g m view is =
      row_all_changed changes (changed_head change h) g (changed change m) (row_changed change h (changed_head change h) m view refl) is

  -- the labels of a row are its head's
  pub labels_are : (h : FinMap text_cmp Source) (m : FinMap text_cmp Scalar) → row_of h a b ≡ m → fin.keys h ≡ fin.keys m
  labels_are h m view = sym (keys-row_of h) ∙ ap fin.keys view

-- an own value that one label has alone: to write it is to give the label that value
module _ (a b c d : Scalar) (s : Source) (others : (t : Source) → (t ≡ s → ⊥) → value_at c d t ≡ value_at a b t) where
  replaced_at : (h : FinMap text_cmp Source) (k q : List ℕ) → IsOnly h k s
      → option_map (value_at c d) (fin.get h q) ≡ cond (eq_by_cmp text_cmp q k) (Some (value_at c d s)) (option_map (value_at a b) (fin.get h q))
  replaced_at h k q o =
      elim (eq_by_cmp text_cmp q k) as (λ t. eq_by_cmp text_cmp q k ≡ t
      → option_map (value_at c d) (fin.get h q) ≡ cond t (Some (value_at c d s)) (option_map (value_at a b) (fin.get h q))) [
        | true ↦ λ t. ap (option_map (value_at c d)) (ap (fin.get h) (text_same q k ((Equal-is _).0 t)) ∙ o.has)
        | false ↦ λ t.
            elim (fin.get h q) as (λ r. fin.get h q ≡ r → option_map (value_at c d) r ≡ option_map (value_at a b) r) [
              | None ↦ λ is. refl
              | Some x ↦ λ is. ap (λ (v : Scalar). Some v) (others x (λ e. apart q k t (o.only q (is ∙ ap (λ (y : Source). Some y) e))))
            ] refl
      ] refl

  pub row_replaced : (h : FinMap text_cmp Source) (m : FinMap text_cmp Scalar) (k : List ℕ) → row_of h a b ≡ m → IsOnly h k s
      → row_of h c d ≡ fin.insert m k (value_at c d s)
  row_replaced h m k view o =
      fin.same_map nat_list_cmp_total text_same _ _ (λ q.
      get-row_of c d h q ∙ replaced_at h k q o
      ∙ ap (cond (eq_by_cmp text_cmp q k) (Some (value_at c d s))) (sym (get-row_of a b h q) ∙ ap (λ n. fin.get n q) view)
      ∙ sym (fin.get-insert nat_list_cmp_total m k (value_at c d s) q))

keeps_second : (a b v : Scalar) (t : Source) → (t ≡ First → ⊥) → value_at v b t ≡ value_at a b t
keeps_second a b v (Fixed x) n = refl
keeps_second a b v First n = absurd (n refl)
keeps_second a b v Second n = refl

keeps_first : (a b v : Scalar) (t : Source) → (t ≡ Second → ⊥) → value_at a v t ≡ value_at a b t
keeps_first a b v (Fixed x) n = refl
keeps_first a b v First n = refl
keeps_first a b v Second n = absurd (n refl)

module _ (a b v : Scalar) (h : FinMap text_cmp Source) (m : FinMap text_cmp Scalar) (k : List ℕ) (view : row_of h a b ≡ m) where
  pub first_replaced : IsOnly h k First → row_of h v b ≡ fin.insert m k v
  first_replaced o = row_replaced a b v b First (keeps_second a b v) h m k view o

  pub second_replaced : IsOnly h k Second → row_of h a v ≡ fin.insert m k v
  second_replaced o = row_replaced a b a v Second (keeps_first a b v) h m k view o

chosen_none : {X : Type 0} (t : Bool) (o : Option X) → (t ≡ true → None ≡ o) → o ≡ cond t None o
chosen_none true o h = sym (h refl)
chosen_none false o h = refl

-- to take out a label that isn't there changes nothing
pub nothing_removed : {X : Type 0} (m : FinMap text_cmp X) (k : List ℕ) → None ≡ fin.get m k → m ≡ fin.remove m k
nothing_removed m k lacks =
    fin.same_map nat_list_cmp_total text_same _ _ (λ q.
    chosen_none (eq_by_cmp text_cmp q k) (fin.get m q) (λ t. lacks ∙ ap (fin.get m) (sym (text_same q k ((Equal-is _).0 t))))
    ∙ sym (fin.get-remove nat_list_cmp_total m k q))

changed-append : (changes : List Change) (change : Change) (h : FinMap text_cmp Source) → all_changed_head (changes ++ change ∷ []) h ≡ changed_head change (all_changed_head changes h)
changed-append [] change h = refl
changed-append (c ∷ changes) change h = changed-append changes change (changed_head c h)

-- one change more
pub changed_more : (changes : List Change) (i : ℕ) (change : Change) (h : FinMap text_cmp Source) → i < length changes → change ≡ get_or changes i change
    → changed_head change (all_changed_head (take i changes) h) ≡ all_changed_head (take (i + 1) changes) h
changed_more changes i change h within is =
    sym (changed-append (take i changes) change h)
    ∙ ap (λ cs. all_changed_head cs h) (ap (λ (c : Change). take i changes ++ c ∷ []) is ∙ sym (take_more changes i change within))
