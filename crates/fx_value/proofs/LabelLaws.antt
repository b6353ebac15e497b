-- A row's own labels over those that it shares, as one map.
use Rattle.std.proofs.Common.{◌≡◌, ℕ, Bool, true, false, T, List, [], ◌∷◌, ◌++◌, map, length, get_or, take, ◌+◌, ◌<◌, ◌≤◌, arith, refl, sym, ap, subst, ◌∙◌}
use Rattle.std.specs.Prelude.{◌&&◌, ◌||◌, ◌↔◌, cond, Option, None, Some, IsTrue}
use Rattle.std.specs.declared.cmp.Ordering.TheVariants.{Less, Equal, Greater}
use Rattle.std.specs.Option.{is_some, option_map, option_or, unwrap_or}
use Rattle.std.specs.Ordering.{is_lt, is_eq, eq_by_cmp}
use Rattle.std.specs.List.{list_all, list_any}
use Rattle.std.specs.Cmp.{Equal-is, eq_by_cmp_equiv}
use Rattle.std.specs.Cmp.Lexicographic.{nat_list_cmp_total}
use Rattle.std.specs.FinMap as fin
use Rattle.std.specs.FinMap.{FinMap}
use Rattle.std.specs.FinMap.Entries.{find, is_sorted, below_all, same_entries}
use Rattle.std.proofs.lemmas.List.{take_more, take_all, get_or-map, length-map}
use Rattle.fx_base.specs.Text.{text_cmp}
use Rattle.fx_value.specs.Change.{changed_head, all_changed_head, label_of, all_left_out}
use Rattle.fx_value.specs.Labels.{with_all, laid, own_at, HasAll, HasOwn}
use Rattle.fx_value.specs.Slots.{entry_of, entries_of, labels_of, IsRising}
use Rattle.fx_value.specs.declared.change.Change.{Change}
use Rattle.fx_value.specs.declared.change.Change.TheVariants.{Set, Remove}
use Rattle.fx_value.specs.declared.slot.Slot.{Slot}
use Rattle.fx_value.specs.declared.source.Source.{Source}
use Rattle.fx_value.proofs.Rows.{text_same, mapped, sorted-mapped, find-mapped, keys-mapped}

abbrev pub Sources : Type 0
Sources = FinMap text_cmp Source

-- ---- what stands at a label

first_so : (a b : Bool) → T (a && b) → T a
first_so true b h = tt
first_so false b h = absurd h

second_so : (a b : Bool) → T (a && b) → T b
second_so true b h = h
second_so false b h = absurd h

-- a label that lies below all others stands at none of them
below_none : (k : List ℕ) (es : List (List ℕ × Source)) → T (below_all text_cmp k es) → find text_cmp k es ≡ None
below_none k [] h = refl
below_none k (e ∷ es) h =
    elim (text_cmp k e.0) as (λ o. T (is_lt o && below_all text_cmp k es) → cond (is_eq o) (Some e.1) (find text_cmp k es) ≡ None) [
      | Less ↦ λ below. below_none k es below
      | Equal ↦ λ below. absurd below
      | Greater ↦ λ below. absurd below
    ] h

-- an entry below the others, put before them or under them
put_under : (t : Bool) (v : Source) (o p : Option Source) → (t ≡ true → o ≡ None) → option_or o (cond t (Some v) p) ≡ option_or (cond t (Some v) o) p
put_under true v o p none = ap (λ x. option_or x (Some v)) (none refl)
put_under false v o p none = refl

get-with_all : (es : List (List ℕ × Source)) (head : Sources) (q : List ℕ) → T (is_sorted text_cmp es)
    → fin.get (with_all es head) q ≡ option_or (find text_cmp q es) (fin.get head q)
get-with_all [] head q h = refl
get-with_all (e ∷ es) head q h =
    get-with_all es (fin.insert head e.0 e.1) q (second_so _ _ h)
    ∙ ap (option_or (find text_cmp q es)) (fin.get-insert nat_list_cmp_total head e.0 e.1 q)
    ∙ put_under (eq_by_cmp text_cmp q e.0) e.1 (find text_cmp q es) (fin.get head q)
    (λ t. ap (λ x. find text_cmp x es) (text_same q e.0 ((Equal-is _).0 t)) ∙ below_none e.0 es (first_so _ _ h))

pub get-laid : (own : Option Sources) (shared : Sources) (q : List ℕ) → fin.get (laid own shared) q ≡ option_or (own_at own q) (fin.get shared q)
get-laid None shared q = refl
get-laid (Some own) shared q =
    get-with_all (fin.entries own) shared q (fin.entries_sorted own) ∙ ap (λ o. option_or o (fin.get shared q)) (sym (fin.get-entries own q))

-- a label found among a row's own ones
pub found_own : (own : Option Sources) (shared m : Sources) (q : List ℕ) (x : Source) → laid own shared ≡ m → Some x ≡ own_at own q → Some x ≡ fin.get m q
found_own own shared m q x view is =
    ap (λ o. option_or o (fin.get shared q)) is ∙ sym (get-laid own shared q) ∙ ap (λ n. fin.get n q) view

-- a label that is none of them
pub found_shared : (own : Option Sources) (shared m : Sources) (q : List ℕ) (o : Option Source) → laid own shared ≡ m → None ≡ own_at own q
    → o ≡ fin.get shared q → o ≡ fin.get m q
found_shared own shared m q o view is found =
    found ∙ ap (λ x. option_or x (fin.get shared q)) is ∙ sym (get-laid own shared q) ∙ ap (λ n. fin.get n q) view

has-laid : (own : Option Sources) (shared : Sources) (q : List ℕ) → fin.contains_key (laid own shared) q ≡ (is_some (own_at own q) || fin.contains_key shared q)
has-laid own shared q = ap is_some (get-laid own shared q) ∙ either (own_at own q) (fin.get shared q)
  where
    either : (o p : Option Source) → is_some (option_or o p) ≡ (is_some o || is_some p)
    either None p = refl
    either (Some x) p = refl

-- ---- one label more, one less

module _ (shared : Sources) (k : List ℕ) where
  given_own : (t : Bool) (s : Source) (o p : Option Source) → option_or (cond t (Some s) o) p ≡ cond t (Some s) (option_or o p)
  given_own true s o p = refl
  given_own false s o p = refl

  own_or_empty : (own : Option Sources) (q : List ℕ) → fin.get (unwrap_or own fin.empty) q ≡ own_at own q
  own_or_empty None q = fin.get-empty text_cmp q
  own_or_empty (Some own) q = refl

  -- one label more of its own
  pub laid-insert : (own : Option Sources) (s : Source) → laid (Some (fin.insert (unwrap_or own fin.empty) k s)) shared ≡ fin.insert (laid own shared) k s
  laid-insert own s =
      fin.same_map nat_list_cmp_total text_same _ _ (λ q.
      get-laid (Some (fin.insert (unwrap_or own fin.empty) k s)) shared q
      ∙ ap (λ o. option_or o (fin.get shared q)) (fin.get-insert nat_list_cmp_total (unwrap_or own fin.empty) k s q ∙ ap (cond (eq_by_cmp text_cmp q k) (Some s)) (own_or_empty own q))
      ∙ given_own (eq_by_cmp text_cmp q k) s (own_at own q) (fin.get shared q)
      ∙ ap (cond (eq_by_cmp text_cmp q k) (Some s)) (sym (get-laid own shared q))
      ∙ sym (fin.get-insert nat_list_cmp_total (laid own shared) k s q))

  taken : (t : Bool) (o p : Option Source) → option_or (cond t None o) (cond t None p) ≡ cond t None (option_or o p)
  taken true o p = refl
  taken false o p = refl

  pub laid-remove : (own : Option Sources) → laid (option_map (λ o. fin.remove o k) own) (fin.remove shared k) ≡ fin.remove (laid own shared) k
  laid-remove None = refl
  laid-remove (Some own) =
      fin.same_map nat_list_cmp_total text_same _ _ (λ q.
      get-laid (Some (fin.remove own k)) (fin.remove shared k) q
      ∙ (λ i. option_or (fin.get-remove nat_list_cmp_total own k q i) (fin.get-remove nat_list_cmp_total shared k q i))
      ∙ taken (eq_by_cmp text_cmp q k) (fin.get own q) (fin.get shared q)
      ∙ ap (cond (eq_by_cmp text_cmp q k) None) (sym (get-laid (Some own) shared q))
      ∙ sym (fin.get-remove nat_list_cmp_total (laid (Some own) shared) k q))

  uncovered : (t : Bool) (s : Source) (o p : Option Source) → option_or (cond t None o) (cond t (Some s) p) ≡ cond t (Some s) (option_or o p)
  uncovered true s o p = refl
  uncovered false s o p = refl

  -- to give a shared label a source, where no own one covers it
  laid-shared : (own : Option Sources) (s : Source) → laid (option_map (λ o. fin.remove o k) own) (fin.insert shared k s) ≡ fin.insert (laid own shared) k s
  laid-shared None s = refl
  laid-shared (Some own) s =
      fin.same_map nat_list_cmp_total text_same _ _ (λ q.
      get-laid (Some (fin.remove own k)) (fin.insert shared k s) q
      ∙ (λ i. option_or (fin.get-remove nat_list_cmp_total own k q i) (fin.get-insert nat_list_cmp_total shared k s q i))
      ∙ uncovered (eq_by_cmp text_cmp q k) s (fin.get own q) (fin.get shared q)
      ∙ ap (cond (eq_by_cmp text_cmp q k) (Some s)) (sym (get-laid (Some own) shared q))
      ∙ sym (fin.get-insert nat_list_cmp_total (laid (Some own) shared) k s q))

laid-changed : (change : Change) (own : Option Sources) (shared : Sources)
    → laid (option_map (λ o. fin.remove o (label_of change)) own) (changed_head change shared) ≡ changed_head change (laid own shared)
laid-changed (Set label value) own shared = laid-shared shared label own _
laid-changed (Remove label) own shared = laid-remove shared label own

mapped_twice : {X Y Z : Type 0} (g : Y → Z) (f : X → Y) (o : Option X) → option_map g (option_map f o) ≡ option_map (λ x. g (f x)) o
mapped_twice g f None = refl
mapped_twice g f (Some x) = refl

-- changes of the shared labels are changes of all, where no own one covers them
pub laid_changed : (changes : List Change) (own : Option Sources) (shared : Sources)
    → laid (option_map (all_left_out changes) own) (all_changed_head changes shared) ≡ all_changed_head changes (laid own shared)
laid_changed [] None shared = refl
laid_changed [] (Some own) shared = refl
laid_changed (c ∷ cs) own shared =
    ap (λ o. laid o (all_changed_head cs (changed_head c shared))) (sym (mapped_twice (all_left_out cs) (λ o. fin.remove o (label_of c)) own))
    ∙ laid_changed cs (option_map (λ o. fin.remove o (label_of c)) own) (changed_head c shared)
    ∙ ap (all_changed_head cs) (laid-changed c own shared)

with_all-append : (es : List (List ℕ × Source)) (e : List ℕ × Source) (head : Sources) → with_all (es ++ e ∷ []) head ≡ fin.insert (with_all es head) e.0 e.1
with_all-append [] e head = refl
with_all-append (d ∷ es) e head = with_all-append es e (fin.insert head d.0 d.1)

with_all_more : (es : List (List ℕ × Source)) (i : ℕ) (e : List ℕ × Source) (head : Sources) → i < length es → e ≡ get_or es i e
    → fin.insert (with_all (take i es) head) e.0 e.1 ≡ with_all (take (i + 1) es) head
with_all_more es i e head within is =
    sym (with_all-append (take i es) e head)
    ∙ ap (λ l. with_all l head) (ap (λ (x : List ℕ × Source). take i es ++ x ∷ []) is ∙ sym (take_more es i e within))

module _ (cs : List Slot) (over : Sources) (view : fin.from_sorted (entries_of cs) ≡ over) (rising : IsRising (entries_of cs)) where
  all_entries : fin.entries over ≡ entries_of cs
  all_entries = ap fin.entries (sym view) ∙ fin.entries-from_sorted text_cmp (entries_of cs) rising

  -- one slot more
  pub under_more : (i : ℕ) (c : Slot) (head : Sources) → i < length cs → c ≡ get_or cs i c
      → fin.insert (with_all (take i (fin.entries over)) head) c.label c.source ≡ with_all (take (i + 1) (fin.entries over)) head
  under_more i c head within is =
      subst (λ es. fin.insert (with_all (take i es) head) c.label c.source ≡ with_all (take (i + 1) es) head) (sym all_entries)
      (with_all_more (entries_of cs) i (entry_of c) head (omega (arith, length-map cs entry_of)) (ap entry_of is ∙ sym (get_or-map entry_of cs i c (entry_of c) within)))

  -- all of them
  pub under_end : (n : ℕ) (head : Sources) → length cs ≤ n → with_all (take n (fin.entries over)) head ≡ with_all (fin.entries over) head
  under_end n head all =
      ap (λ es. with_all es head)
      (take_all n (fin.entries over) (omega (arith, ap length all_entries, length-map cs entry_of)))

left_out-append : (changes : List Change) (c : Change) (head : Sources) → all_left_out (changes ++ c ∷ []) head ≡ fin.remove (all_left_out changes head) (label_of c)
left_out-append [] c head = refl
left_out-append (d ∷ changes) c head = left_out-append changes c (fin.remove head (label_of d))

-- one change more
pub left_out_more : (changes : List Change) (i : ℕ) (c : Change) (head : Sources) → i < length changes → c ≡ get_or changes i c
    → fin.remove (all_left_out (take i changes) head) (label_of c) ≡ all_left_out (take (i + 1) changes) head
left_out_more changes i c head within is =
    sym (left_out-append (take i changes) c head)
    ∙ ap (λ cs. all_left_out cs head) (ap (λ (d : Change). take i changes ++ d ∷ []) is ∙ sym (take_more changes i c within))

-- ---- which labels there are

unit_of : Source → Unit {0}
unit_of s = tt

both_there : (o p : Option Source) → (is_some p ≡ true → is_some o ≡ true) → (is_some o ≡ true → is_some p ≡ true) → option_map unit_of o ≡ option_map unit_of p
both_there None None h g = refl
both_there None (Some y) h g = absurd (subst T (sym (h refl)) tt)
both_there (Some x) None h g = absurd (subst T (sym (g refl)) tt)
both_there (Some x) (Some y) h g = refl

-- maps that have each other's labels have the same list of labels
pub same_keys : (m n : Sources) → HasAll m n → HasAll n m → fin.keys m ≡ fin.keys n
same_keys m n h g =
    sym (keys-mapped unit_of (fin.entries m))
    ∙ ap (map (λ e. e.0))
    (same_entries text_cmp nat_list_cmp_total text_same (mapped unit_of (fin.entries m)) (mapped unit_of (fin.entries n))
    (subst T (sym (sorted-mapped unit_of (fin.entries m))) (fin.entries_sorted m)) (subst T (sym (sorted-mapped unit_of (fin.entries n))) (fin.entries_sorted n))
    (λ q. find-mapped unit_of q (fin.entries m) ∙ ap (option_map unit_of) (sym (fin.get-entries m q))
    ∙ both_there (fin.get m q) (fin.get n q) (h q) (g q)
    ∙ ap (option_map unit_of) (fin.get-entries n q) ∙ sym (find-mapped unit_of q (fin.entries n))))
    ∙ keys-mapped unit_of (fin.entries n)

-- and the other way
pub has_same : (m n : Sources) → fin.keys m ≡ fin.keys n → HasAll m n
has_same m n same q there =
    fin.contains_key-keys m q ∙ ap (list_any (eq_by_cmp text_cmp q)) same ∙ sym (fin.contains_key-keys n q) ∙ there

-- whether they have each other's labels, one question after the other
pub same_keys_both : (m n : Sources) (a b : Bool) → IsTrue a ↔ HasAll m n → IsTrue b ↔ HasAll n m → IsTrue (a && b) ↔ (fin.keys m ≡ fin.keys n)
same_keys_both m n true true p q = (λ t. same_keys m n (p.0 refl) (q.0 refl), λ same. refl)
same_keys_both m n true false p q = (λ t. cc, λ same. q.1 (has_same n m (sym same)))
same_keys_both m n false b p q = (λ t. cc, λ same. p.1 (has_same m n same))

first_true : (a b : Bool) → (a && b) ≡ true → a ≡ true
first_true true b t = refl
first_true false b t = cc

second_true : (a b : Bool) → (a && b) ≡ true → b ≡ true
second_true true b t = t
second_true false b t = cc

both_true : (a b : Bool) → a ≡ true → b ≡ true → (a && b) ≡ true
both_true true b s t = t
both_true false b s t = s

-- a map that lacks a label of the other has not its list of labels
pub other_keys : (m n : Sources) (a : Bool) → a ≡ false → IsTrue a ↔ HasAll m n → IsTrue a ↔ (fin.keys m ≡ fin.keys n)
other_keys m n a is p = (λ t. cc, λ same. p.1 (has_same m n same))

either_so : (a b c : Bool) → (a ≡ true → c ≡ true) → (b ≡ true → c ≡ true) → (a || b) ≡ true → c ≡ true
either_so true b c h g t = h refl
either_so false b c h g t = g t

left_so : (a b : Bool) → a ≡ true → (a || b) ≡ true
left_so true b t = refl
left_so false b t = cc

right_so : (a b : Bool) → b ≡ true → (a || b) ≡ true
right_so true b t = refl
right_so false b t = t

-- each own label and each shared one is there
pub has_laid : (m : Sources) (own : Option Sources) (shared : Sources) (a b : Bool)
    → IsTrue a ↔ HasOwn m own → IsTrue b ↔ HasAll m shared
    → IsTrue (a && b) ↔ HasAll m (laid own shared)
has_laid m own shared a b p q = (
  λ t. λ x there. either_so (is_some (own_at own x)) (fin.contains_key shared x) (fin.contains_key m x)
      (p.0 (first_true a b t) x) (q.0 (second_true a b t) x) (sym (has-laid own shared x) ∙ there),
  λ all. both_true a b
      (p.1 (λ x there. all x (has-laid own shared x ∙ left_so _ (fin.contains_key shared x) there)))
      (q.1 (λ x there. all x (has-laid own shared x ∙ right_so (is_some (own_at own x)) _ there))),
)

-- where an own label isn't there
pub has_none : (m : Sources) (own : Option Sources) (shared : Sources) (a : Bool) → a ≡ false → IsTrue a ↔ HasOwn m own → IsTrue a ↔ HasAll m (laid own shared)
has_none m own shared a is p = (
  λ t. cc,
  λ all. p.1 (λ x there. all x (has-laid own shared x ∙ left_so _ (fin.contains_key shared x) there)),
)

-- ---- the labels of slots

all_there : (m : Sources) (cs : List Slot) (q : List ℕ) → list_all (λ s. fin.contains_key m s.label) cs ≡ true
    → list_any (eq_by_cmp text_cmp q) (labels_of cs) ≡ true → fin.contains_key m q ≡ true
all_there m [] q h there = cc
all_there m (c ∷ cs) q h there =
    elim (eq_by_cmp text_cmp q c.label) as (λ t. eq_by_cmp text_cmp q c.label ≡ t → (t || list_any (eq_by_cmp text_cmp q) (labels_of cs)) ≡ true → fin.contains_key m q ≡ true) [
      | true ↦ λ t there. ap (fin.contains_key m) (text_same q c.label ((Equal-is _).0 t)) ∙ first_true (fin.contains_key m c.label) _ h
      | false ↦ λ t there. all_there m cs q (second_true (fin.contains_key m c.label) _ h) there
    ] refl there

there_all : (m : Sources) (cs : List Slot) → ((q : List ℕ) → list_any (eq_by_cmp text_cmp q) (labels_of cs) ≡ true → fin.contains_key m q ≡ true)
    → list_all (λ s. fin.contains_key m s.label) cs ≡ true
there_all m [] all = refl
there_all m (c ∷ cs) all =
    both_true _ _ (all c.label (left_so _ _ ((eq_by_cmp_equiv nat_list_cmp_total).refl c.label)))
    (there_all m cs (λ q there. all q (right_so (eq_by_cmp text_cmp q c.label) _ there)))

-- all slots' labels are there exactly where all labels of their head are
pub slots_there : (m head : Sources) (cs : List Slot) (r : Bool) → labels_of cs ≡ fin.keys head → r ≡ list_all (λ s. fin.contains_key m s.label) cs
    → IsTrue r ↔ HasAll m head
slots_there m head cs r labels is = (
  λ t q there. all_there m cs q (sym is ∙ t) (ap (list_any (eq_by_cmp text_cmp q)) labels ∙ sym (fin.contains_key-keys head q) ∙ there),
  λ all. is ∙ there_all m cs (λ q there. all q (fin.contains_key-keys head q ∙ ap (list_any (eq_by_cmp text_cmp q)) (sym labels) ∙ there)),
)
