-- What a store binds after it took one more binding.
use Rattle.std.proofs.Common.{◌≡◌, ◌↔◌, ◌⊎◌, inl, inr, refl, sym, ap, subst, ◌∙◌, ℕ, ◌+◌, ◌<◌, true, false, ◌==◌, List, [], ◌∷◌, ◌++◌, get_or, drop, length, Option, None, Some, Result, Ok, Err, OnOk, option_map, unwrap_or, is_some, eqb-true, eq-eqb}
use Rattle.std.specs.Prelude.{if◌then◌else◌}
use Rattle.std.proofs.lemmas.List.{drop_more}
use mathlib.Core.Bool.{true≢false}
use Rattle.fx_base.specs.Text.{same_text}
use Rattle.fx_types.specs.declared.term.Ty.{Ty}
use Rattle.fx_types.specs.Term.{Label, type_variable}
use Rattle.fx_types.specs.Ground.{listed}
use Rattle.fx_types.specs.Instance.{Solution}
use Rattle.fx_types.specs.Shape.{term}
use Rattle.fx_unify.specs.declared.field.Field as fields
use Rattle.fx_unify.specs.declared.store.Slot as slots
use Rattle.fx_unify.specs.declared.store.Root as roots
use Rattle.fx_unify.specs.declared.store.Store as stores
use Rattle.fx_unify.specs.Part.{Part, p_is, p_field, p_slot, part, value, Variable, type_node, field_node, slot_node, as_part, Entries, Solved}
use Rattle.fx_unify.specs.Store.{root_at, slot_in, rest_in, entry, slots_of, apart_of, rest_of, slot_names, bound_to}
use Rattle.fx_unify.specs.Work.{Hold, Holds}
use Rattle.fx_types.proofs.Choices.{chosen, passed, never, by_cases}
use Rattle.fx_types.proofs.RowSums.{same_is, same_itself}
use Rattle.fx_unify.proofs.LabelLaws.{listed_one_more}

pub on_ok : {A E P Q : Type 0} (r : Result A E) → (P → Q) → OnOk r P → OnOk r Q
on_ok (Ok x) f p = f p
on_ok (Err e) f p = p

pub some_is : {A : Type 0} (x y : A) → Some x ≡ Some y → x ≡ y
some_is x y e = ap (λ o. unwrap_or o x) e

pub none_some : {A B : Type 0} (x : A) (o : Option A) → o ≡ None → o ≡ Some x → B
none_some x o e f = absurd (true≢false (ap is_some (sym f ∙ e)))

-- one variable gets an entry, and the others keep theirs

bound_solves : (e e' : Entries) (x : Variable) (p : Part) → e x ≡ None → e' x ≡ Some p → ((y : Variable) → (y ≡ x) ⊎ (e' y ≡ e y))
    → (s : Solution) → Solved s e' ↔ (Solved s e × (value s (as_part x) ≡ value s p))
bound_solves e e' x p free new others s = (λ h. (λ y q at. kept h y q at (others y), h x p new), λ h y q at. more h y q at (others y))
  where
    kept : Solved s e' → (y : Variable) (q : Part) → e y ≡ Some q → (y ≡ x) ⊎ (e' y ≡ e y) → value s (as_part y) ≡ value s q
    kept h y q at (inl same) = none_some q (e x) free (ap e (sym same) ∙ at)
    kept h y q at (inr old) = h y q (old ∙ at)

    more : Solved s e × (value s (as_part x) ≡ value s p) → (y : Variable) (q : Part) → e' y ≡ Some q → (y ≡ x) ⊎ (e' y ≡ e y) → value s (as_part y) ≡ value s q
    more h y q at (inl same) = ap (λ z. value s (as_part z)) same ∙ h.1 ∙ ap (value s) (some_is p q (sym new ∙ ap e' (sym same) ∙ at))
    more h y q at (inr old) = h.0 y q (sym old ∙ at)

pub bound_holds : (st st' : stores.Store) (x : Variable) (p : Part) → st'.work ≡ st.work → entry st x ≡ None → entry st' x ≡ Some p
    → ((y : Variable) → (y ≡ x) ⊎ (entry st' y ≡ entry st y)) → (s : Solution) → Holds s st' ↔ (Holds s st × (value s (as_part x) ≡ value s p))
bound_holds st st' x p work free new others s =
    let both : Solved s (entry st') ↔ (Solved s (entry st) × (value s (as_part x) ≡ value s p)) = bound_solves (entry st) (entry st') x p free new others s in (
      λ h. (((both.0 h.0).0, subst (λ w. Hold s w.items) work h.1), (both.0 h.0).1),
      λ h. (both.1 (h.0.0, h.1), subst (λ w. Hold s w.items) (sym work) h.0.1),
    )

pub slots_same : (st st' : stores.Store) → st'.slots ≡ st.slots → st'.apart ≡ st.apart → st'.rests ≡ st.rests → (r : ℕ) (l : Label) → entry st' (slot_node r l) ≡ entry st (slot_node r l)
slots_same st st' slots apart rests r l = λ i. slot_in (get_or (slots i).items r []) l (rest_in (get_or (apart i).items r []) (get_or (rests i).items r None) l)

pub type_bound : (st st' : stores.Store) (n : ℕ) (t : Ty) → st'.fields ≡ st.fields → st'.slots ≡ st.slots → st'.apart ≡ st.apart → st'.rests ≡ st.rests → st'.work ≡ st.work
    → ((m : ℕ) → get_or st'.types.items m None ≡ (if m == n then Some t else get_or st.types.items m None)) → entry st (type_node n) ≡ None
    → (s : Solution) → Holds s st' ↔ (Holds s st × (value s (p_is (type_variable n)) ≡ value s (p_is (term t))))
type_bound st st' n t fields slots apart rests work put free =
    bound_holds st st' (type_node n) (p_is (term t)) work free
    (ap (option_map (λ u. p_is (term u))) (put n ∙ chosen (n == n) (Some t) (get_or st.types.items n None) (eq-eqb n n refl))) others
  where
    others : (y : Variable) → (y ≡ type_node n) ⊎ (entry st' y ≡ entry st y)
    others (type_node m) =
        by_cases (m == n) (λ e. inl (ap type_node (eqb-true m n e)))
        (λ e. inr (ap (option_map (λ u. p_is (term u))) (put m ∙ passed (m == n) (Some t) (get_or st.types.items m None) e)))
    others (field_node m) = inr (ap (λ v. option_map part (get_or v.items m None)) fields)
    others (slot_node r l) = inr (slots_same st st' slots apart rests r l)

-- from `mid` on, which binds what `st` does, a field variable and a slot get what they are bound to

pub field_bound : (st mid st' : stores.Store) (n : ℕ) (f : fields.Field) → ((x : Variable) → entry mid x ≡ entry st x) → mid.work ≡ st.work
    → st'.types ≡ mid.types → st'.slots ≡ mid.slots → st'.apart ≡ mid.apart → st'.rests ≡ mid.rests → st'.work ≡ mid.work
    → ((m : ℕ) → get_or st'.fields.items m None ≡ (if m == n then Some f else get_or mid.fields.items m None)) → entry st (field_node n) ≡ None
    → (s : Solution) → Holds s st' ↔ (Holds s st × (value s (p_field n) ≡ value s (part f)))
field_bound st mid st' n f same before types slots apart rests work put free =
    bound_holds st st' (field_node n) (part f) (work ∙ before) free
    (ap (option_map part) (put n ∙ chosen (n == n) (Some f) (get_or mid.fields.items n None) (eq-eqb n n refl))) others
  where
    others : (y : Variable) → (y ≡ field_node n) ⊎ (entry st' y ≡ entry st y)
    others (field_node m) =
        by_cases (m == n) (λ e. inl (ap field_node (eqb-true m n e)))
        (λ e. inr (ap (option_map part) (put m ∙ passed (m == n) (Some f) (get_or mid.fields.items m None) e) ∙ same (field_node m)))
    others (type_node m) = inr (ap (λ v. option_map (λ u. p_is (term u)) (get_or v.items m None)) types ∙ same (type_node m))
    others (slot_node r l) = inr (slots_same mid st' slots apart rests r l ∙ same (slot_node r l))

-- slots

pub unslotted : (cs : List slots.Slot) (l : Label) (o : Option Part) → listed l (slot_names cs) ≡ false → slot_in cs l o ≡ o
unslotted [] l o h = refl
unslotted (c ∷ cs) l o h =
    by_cases (same_text l c.label) (λ e. never (listed l (slot_names (c ∷ cs))) (chosen (same_text l c.label) true (listed l (slot_names cs)) e) h)
    (λ e. passed (same_text l c.label) (Some (part c.field)) (slot_in cs l o) e ∙ unslotted cs l o (sym (passed (same_text l c.label) true (listed l (slot_names cs)) e) ∙ h))

pub slotted : (cs : List slots.Slot) (l : Label) (o o' : Option Part) → listed l (slot_names cs) ≡ true → slot_in cs l o ≡ slot_in cs l o'
slotted [] l o o' h = absurd (true≢false (sym h))
slotted (c ∷ cs) l o o' h =
    by_cases (same_text l c.label)
    (λ e. chosen (same_text l c.label) (Some (part c.field)) (slot_in cs l o) e ∙ sym (chosen (same_text l c.label) (Some (part c.field)) (slot_in cs l o') e))
    (λ e. ap (λ y. if same_text l c.label then Some (part c.field) else y) (slotted cs l o o' (sym (passed (same_text l c.label) true (listed l (slot_names cs)) e) ∙ h)))

-- a slot that is free isn't there, and its rest says nothing
pub free_slot_in : (cs : List slots.Slot) (l : Label) (o : Option Part) → slot_in cs l o ≡ None → (listed l (slot_names cs) ≡ false) × (o ≡ None)
free_slot_in [] l o h = (refl, h)
free_slot_in (c ∷ cs) l o h =
    by_cases (same_text l c.label) (λ e. none_some (part c.field) (slot_in (c ∷ cs) l o) h (chosen (same_text l c.label) (Some (part c.field)) (slot_in cs l o) e))
    (λ e. (let more : (listed l (slot_names cs) ≡ false) × (o ≡ None) = free_slot_in cs l o (sym (passed (same_text l c.label) (Some (part c.field)) (slot_in cs l o) e) ∙ h) in
    (passed (same_text l c.label) true (listed l (slot_names cs)) e ∙ more.0, more.1)))

slot_added : (cs : List slots.Slot) (c : slots.Slot) (l : Label) (o : Option Part) → slot_in (cs ++ c ∷ []) l o ≡ slot_in cs l (if same_text l c.label then Some (part c.field) else o)
slot_added [] c l o = refl
slot_added (d ∷ cs) c l o = ap (λ y. if same_text l d.label then Some (part d.field) else y) (slot_added cs c l o)

-- the search for a slot

pub slot_hit : (cs : List slots.Slot) (i : ℕ) (c : slots.Slot) (l : Label) → i < length cs → c ≡ get_or cs i c → same_text l c.label ≡ true
    → ((o : Option Part) → slot_in cs l o ≡ slot_in (drop i cs) l o) → (o : Option Part) → slot_in cs l o ≡ Some (part c.field)
slot_hit cs i c l lt at e h o =
    let split : drop i cs ≡ c ∷ drop (i + 1) cs = drop_more cs i c lt ∙ ap (λ d. d ∷ drop (i + 1) cs) (sym at) in
    h o ∙ ap (λ ds. slot_in ds l o) split ∙ chosen (same_text l c.label) (Some (part c.field)) (slot_in (drop (i + 1) cs) l o) e

pub slot_miss : (cs : List slots.Slot) (i : ℕ) (c : slots.Slot) (l : Label) → i < length cs → c ≡ get_or cs i c → same_text l c.label ≡ false
    → (listed l (slot_names cs) ≡ listed l (slot_names (drop i cs))) × ((o : Option Part) → slot_in cs l o ≡ slot_in (drop i cs) l o)
    → (listed l (slot_names cs) ≡ listed l (slot_names (drop (i + 1) cs))) × ((o : Option Part) → slot_in cs l o ≡ slot_in (drop (i + 1) cs) l o)
slot_miss cs i c l lt at e h =
    let split : drop i cs ≡ c ∷ drop (i + 1) cs = drop_more cs i c lt ∙ ap (λ d. d ∷ drop (i + 1) cs) (sym at) in (
      h.0 ∙ ap (λ ds. listed l (slot_names ds)) split ∙ passed (same_text l c.label) true (listed l (slot_names (drop (i + 1) cs))) e,
      λ o. h.1 o ∙ ap (λ ds. slot_in ds l o) split ∙ passed (same_text l c.label) (Some (part c.field)) (slot_in (drop (i + 1) cs) l o) e,
    )

pub slot_bound : (st mid st' : stores.Store) (r : ℕ) (c : slots.Slot) → ((x : Variable) → entry mid x ≡ entry st x) → mid.work ≡ st.work
    → st'.types ≡ mid.types → st'.fields ≡ mid.fields → st'.apart ≡ mid.apart → st'.rests ≡ mid.rests → st'.work ≡ mid.work
    → ((m : ℕ) → get_or st'.slots.items m [] ≡ (if m == r then get_or mid.slots.items r [] ++ c ∷ [] else get_or mid.slots.items m [])) → entry st (slot_node r c.label) ≡ None
    → (s : Solution) → Holds s st' ↔ (Holds s st × (value s (p_slot r c.label) ≡ value s (part c.field)))
slot_bound st mid st' r c same before types fields apart rests work put free =
    bound_holds st st' (slot_node r c.label) (part c.field) (work ∙ before) free
    (here c.label ∙ ap (slot_in (slots_of mid r) c.label) (chosen (same_text c.label c.label) (Some (part c.field)) (rest_in (apart_of mid r) (rest_of mid r) c.label) (same_itself c.label))
    ∙ unslotted (slots_of mid r) c.label (Some (part c.field)) (free_slot_in (slots_of mid r) c.label (rest_in (apart_of mid r) (rest_of mid r) c.label) (same (slot_node r c.label) ∙ free)).0) others
  where
    by_rest : (m : ℕ) (l : Label) → rest_in (apart_of st' m) (rest_of st' m) l ≡ rest_in (apart_of mid m) (rest_of mid m) l
    by_rest m l = λ i. rest_in (get_or (apart i).items m []) (get_or (rests i).items m None) l

    here : (l : Label) → entry st' (slot_node r l) ≡ slot_in (slots_of mid r) l (if same_text l c.label then Some (part c.field) else rest_in (apart_of mid r) (rest_of mid r) l)
    here l =
        ap (slot_in (slots_of st' r) l) (by_rest r l)
        ∙ ap (λ cs. slot_in cs l (rest_in (apart_of mid r) (rest_of mid r) l)) (put r ∙ chosen (r == r) (get_or mid.slots.items r [] ++ c ∷ []) (get_or mid.slots.items r []) (eq-eqb r r refl))
        ∙ slot_added (slots_of mid r) c l (rest_in (apart_of mid r) (rest_of mid r) l)

    others : (y : Variable) → (y ≡ slot_node r c.label) ⊎ (entry st' y ≡ entry st y)
    others (type_node m) = inr (ap (λ v. option_map (λ u. p_is (term u)) (get_or v.items m None)) types ∙ same (type_node m))
    others (field_node m) = inr (ap (λ v. option_map part (get_or v.items m None)) fields ∙ same (field_node m))
    others (slot_node m l) =
        by_cases (m == r)
        (λ e. by_cases (same_text l c.label) (λ q. inl (λ i. slot_node (eqb-true m r e i) (same_is l c.label q i)))
        (λ q. inr (ap (λ j. entry st' (slot_node j l)) (eqb-true m r e) ∙ here l
        ∙ ap (slot_in (slots_of mid r) l) (passed (same_text l c.label) (Some (part c.field)) (rest_in (apart_of mid r) (rest_of mid r) l) q)
        ∙ same (slot_node r l) ∙ ap (λ j. entry st (slot_node j l)) (sym (eqb-true m r e)))))
        (λ e. inr (ap (slot_in (slots_of st' m) l) (by_rest m l)
        ∙ ap (λ cs. slot_in cs l (rest_in (apart_of mid m) (rest_of mid m) l)) (put m ∙ passed (m == r) (get_or mid.slots.items r [] ++ c ∷ []) (get_or mid.slots.items m []) e)
        ∙ same (slot_node m l)))

-- a row variable is kept apart from its rest at one label more, where the rest says nothing

kept_there : (apart : List Label) (rest : Option roots.Root) (l x : Label) → rest_in apart rest x ≡ None → rest_in (apart ++ x ∷ []) rest l ≡ rest_in apart rest l
kept_there apart rest l x none =
    ap (λ b. if b then None else option_map (root_at l) rest) (listed_one_more l x apart)
    ∙ by_cases (same_text l x)
    (λ e. ap (λ b. if b then None else option_map (root_at l) rest) (chosen (same_text l x) true (listed l apart) e) ∙ sym (ap (rest_in apart rest) (same_is l x e) ∙ none))
    (λ e. ap (λ b. if b then None else option_map (root_at l) rest) (passed (same_text l x) true (listed l apart) e))

pub kept_last : (st st' : stores.Store) (r : ℕ) (x : Label) → ((m : ℕ) → get_or st'.apart.items m [] ≡ (if m == r then get_or st.apart.items r [] ++ x ∷ [] else get_or st.apart.items m []))
    → apart_of st' r ≡ apart_of st r ++ x ∷ []
kept_last st st' r x put = put r ∙ chosen (r == r) (get_or st.apart.items r [] ++ x ∷ []) (get_or st.apart.items r []) (eq-eqb r r refl)

pub kept_more : (st st' : stores.Store) (r : ℕ) (x : Label) → rest_in (apart_of st r) (rest_of st r) x ≡ None → st'.types ≡ st.types → st'.fields ≡ st.fields → st'.slots ≡ st.slots → st'.rests ≡ st.rests
    → ((m : ℕ) → get_or st'.apart.items m [] ≡ (if m == r then get_or st.apart.items r [] ++ x ∷ [] else get_or st.apart.items m []))
    → ((y : Variable) → entry st' y ≡ entry st y) × ((l : Label) → listed l (apart_of st' r) ≡ (if same_text l x then true else listed l (apart_of st r)))
kept_more st st' r x none types fields slots rests put = (same, λ l. ap (listed l) here ∙ listed_one_more l x (apart_of st r))
  where
    here : apart_of st' r ≡ apart_of st r ++ x ∷ []
    here = kept_last st st' r x put

    others : (m : ℕ) (l : Label) → rest_in (apart_of st' m) (rest_of st m) l ≡ rest_in (apart_of st m) (rest_of st m) l
    others m l =
        by_cases (m == r)
        (λ e. ap (λ j. rest_in (apart_of st' j) (rest_of st j) l) (eqb-true m r e) ∙ ap (λ a. rest_in a (rest_of st r) l) here ∙ kept_there (apart_of st r) (rest_of st r) l x none
        ∙ ap (λ j. rest_in (apart_of st j) (rest_of st j) l) (sym (eqb-true m r e)))
        (λ e. ap (λ a. rest_in a (rest_of st m) l) (put m ∙ passed (m == r) (get_or st.apart.items r [] ++ x ∷ []) (get_or st.apart.items m []) e))

    same : (y : Variable) → entry st' y ≡ entry st y
    same (type_node m) = ap (λ v. option_map (λ u. p_is (term u)) (get_or v.items m None)) types
    same (field_node m) = ap (λ v. option_map part (get_or v.items m None)) fields
    same (slot_node m l) =
        ap (λ v. slot_in (get_or v.items m []) l (rest_in (apart_of st' m) (rest_of st' m) l)) slots
        ∙ ap (λ v. slot_in (slots_of st m) l (rest_in (apart_of st' m) (get_or v.items m None) l)) rests ∙ ap (slot_in (slots_of st m) l) (others m l)

-- where it is kept apart already
pub kept_before : (ls : List Label) (x : Label) → true ≡ listed x ls → (l : Label) → listed l ls ≡ (if same_text l x then true else listed l ls)
kept_before ls x there l =
    by_cases (same_text l x) (λ e. ap (λ y. listed y ls) (same_is l x e) ∙ sym there ∙ sym (chosen (same_text l x) true (listed l ls) e)) (λ e. sym (passed (same_text l x) true (listed l ls) e))

-- a row variable is what its rest gives where it isn't kept apart

pub off_kept : (st : stores.Store) (r : ℕ) (l : Label) → listed l (slot_names (slots_of st r)) ≡ false → listed l (apart_of st r) ≡ false
    → entry st (slot_node r l) ≡ option_map (root_at l) (rest_of st r)
off_kept st r l slots apart =
    unslotted (slots_of st r) l (rest_in (apart_of st r) (rest_of st r) l) slots ∙ passed (listed l (apart_of st r)) None (option_map (root_at l) (rest_of st r)) apart

pub followed : (st : stores.Store) (r : ℕ) (o : roots.Root) → rest_of st r ≡ Some o → (s : Solution) → Solved s (entry st) → (l : Label)
    → listed l (slot_names (slots_of st r)) ≡ false → listed l (apart_of st r) ≡ false → s.row_of r l ≡ value s (root_at l o)
followed st r o at s solved l slots apart = solved (slot_node r l) (root_at l o) (off_kept st r l slots apart ∙ ap (option_map (root_at l)) at)

pub rest_bound : (st st' : stores.Store) (r : ℕ) (o : roots.Root) → st'.types ≡ st.types → st'.fields ≡ st.fields → st'.slots ≡ st.slots → st'.apart ≡ st.apart → st'.work ≡ st.work
    → ((m : ℕ) → get_or st'.rests.items m None ≡ (if m == r then Some o else get_or st.rests.items m None)) → rest_of st r ≡ None
    → (s : Solution) → Holds s st' ↔ (Holds s st × ((l : Label) → listed l (slot_names (slots_of st r)) ≡ false → listed l (apart_of st r) ≡ false → s.row_of r l ≡ value s (root_at l o)))
rest_bound st st' r o types fields slots apart work put free s = (
  λ h. ((λ y q at. kept h.0 y q at, subst (λ w. Hold s w.items) work h.1), λ l off apart_off. h.0 (slot_node r l) (root_at l o) (some_there l off apart_off)),
  λ h. (λ y q at. more h.0.0 h.1 y q at, subst (λ w. Hold s w.items) (sym work) h.0.1),
)
  where
    at_old : (m : ℕ) (l : Label) → entry st' (slot_node m l) ≡ slot_in (slots_of st m) l (rest_in (apart_of st m) (rest_of st' m) l)
    at_old m l = λ i. slot_in (get_or (slots i).items m []) l (rest_in (get_or (apart i).items m []) (rest_of st' m) l)

    some_there : (l : Label) → listed l (slot_names (slots_of st r)) ≡ false → listed l (apart_of st r) ≡ false → entry st' (slot_node r l) ≡ Some (root_at l o)
    some_there l off apart_off =
        at_old r l ∙ unslotted (slots_of st r) l (rest_in (apart_of st r) (rest_of st' r) l) off ∙ passed (listed l (apart_of st r)) None (option_map (root_at l) (rest_of st' r)) apart_off
        ∙ ap (option_map (root_at l)) (put r ∙ chosen (r == r) (Some o) (get_or st.rests.items r None) (eq-eqb r r refl))

    -- all other slots are as they were
    same_slot : (m : ℕ) (l : Label) → listed l (slot_names (slots_of st m)) ≡ true → entry st' (slot_node m l) ≡ entry st (slot_node m l)
    same_slot m l k = at_old m l ∙ slotted (slots_of st m) l (rest_in (apart_of st m) (rest_of st' m) l) (rest_in (apart_of st m) (rest_of st m) l) k

    same_apart : (m : ℕ) (l : Label) → listed l (apart_of st m) ≡ true → entry st' (slot_node m l) ≡ entry st (slot_node m l)
    same_apart m l k =
        at_old m l ∙ ap (slot_in (slots_of st m) l) (chosen (listed l (apart_of st m)) None (option_map (root_at l) (rest_of st' m)) k
        ∙ sym (chosen (listed l (apart_of st m)) None (option_map (root_at l) (rest_of st m)) k))

    same_other : (m : ℕ) (l : Label) → (m == r) ≡ false → entry st' (slot_node m l) ≡ entry st (slot_node m l)
    same_other m l e = at_old m l ∙ ap (λ x. slot_in (slots_of st m) l (rest_in (apart_of st m) x l)) (put m ∙ passed (m == r) (Some o) (get_or st.rests.items m None) e)

    none_there : (l : Label) → listed l (slot_names (slots_of st r)) ≡ false → listed l (apart_of st r) ≡ false → entry st (slot_node r l) ≡ None
    none_there l off apart_off = off_kept st r l off apart_off ∙ ap (option_map (root_at l)) free

    kept : Solved s (entry st') → (y : Variable) (q : Part) → entry st y ≡ Some q → value s (as_part y) ≡ value s q
    kept h (type_node m) q at = h (type_node m) q (ap (λ v. option_map (λ u. p_is (term u)) (get_or v.items m None)) types ∙ at)
    kept h (field_node m) q at = h (field_node m) q (ap (λ v. option_map part (get_or v.items m None)) fields ∙ at)
    kept h (slot_node m l) q at =
        by_cases (m == r)
        (λ e. by_cases (listed l (slot_names (slots_of st m))) (λ k. h (slot_node m l) q (same_slot m l k ∙ at))
        (λ k. by_cases (listed l (apart_of st m)) (λ a. h (slot_node m l) q (same_apart m l a ∙ at))
        (λ a. none_some q (entry st (slot_node r l))
        (none_there l (subst (λ j. listed l (slot_names (slots_of st j)) ≡ false) (eqb-true m r e) k) (subst (λ j. listed l (apart_of st j) ≡ false) (eqb-true m r e) a))
        (ap (λ j. entry st (slot_node j l)) (sym (eqb-true m r e)) ∙ at))))
        (λ e. h (slot_node m l) q (same_other m l e ∙ at))

    more : Solved s (entry st) → ((l : Label) → listed l (slot_names (slots_of st r)) ≡ false → listed l (apart_of st r) ≡ false → s.row_of r l ≡ value s (root_at l o)) → (y : Variable) (q : Part)
        → entry st' y ≡ Some q → value s (as_part y) ≡ value s q
    more h g (type_node m) q at = h (type_node m) q (ap (λ v. option_map (λ u. p_is (term u)) (get_or v.items m None)) (sym types) ∙ at)
    more h g (field_node m) q at = h (field_node m) q (ap (λ v. option_map part (get_or v.items m None)) (sym fields) ∙ at)
    more h g (slot_node m l) q at =
        by_cases (m == r)
        (λ e. by_cases (listed l (slot_names (slots_of st m))) (λ k. h (slot_node m l) q (sym (same_slot m l k) ∙ at))
        (λ k. by_cases (listed l (apart_of st m)) (λ a. h (slot_node m l) q (sym (same_apart m l a) ∙ at))
        (λ a. (let off : listed l (slot_names (slots_of st r)) ≡ false = subst (λ j. listed l (slot_names (slots_of st j)) ≡ false) (eqb-true m r e) k in
        let apart_off : listed l (apart_of st r) ≡ false = subst (λ j. listed l (apart_of st j) ≡ false) (eqb-true m r e) a in
        ap (λ j. s.row_of j l) (eqb-true m r e) ∙ g l off apart_off
        ∙ ap (value s) (some_is (root_at l o) q (sym (some_there l off apart_off) ∙ ap (λ j. entry st' (slot_node j l)) (sym (eqb-true m r e)) ∙ at))))))
        (λ e. h (slot_node m l) q (sym (same_other m l e) ∙ at))

-- one step along a bound variable
pub stepped : (e : Entries) (p q : Part) → bound_to e p ≡ Some q → (s : Solution) → Solved s e → value s p ≡ value s q
stepped e (p_field n) q at s solved = solved (field_node n) q at
stepped e (p_slot r l) q at s solved = solved (slot_node r l) q at
stepped e (p_is (type_variable n)) q at s solved = solved (type_node n) q at
stepped e _ q at s solved = none_some q None refl at
