-- Two rows that are made the same.
use Rattle.std.proofs.Common.{◌≡◌, ◌↔◌, refl, sym, ap, subst, ◌∙◌, ℕ, ◌+◌, ◌<◌, Bool, true, false, List, [], ◌∷◌, ◌++◌, take, get_or, length, Option, None}
use Rattle.std.specs.Prelude.{if◌then◌else◌}
use Rattle.std.proofs.lemmas.List.{take_more}
use Rattle.fx_base.specs.Text.{same_text}
use Rattle.fx_types.specs.declared.term.FieldTy.{FieldTy}
use Rattle.fx_types.specs.declared.term.RowTy.{RowTy}
use Rattle.fx_types.specs.Term.{Label}
use Rattle.fx_types.specs.Ground.{GroundRow, listed}
use Rattle.fx_types.specs.Instance.{Solution, ground_field, ground_tail}
use Rattle.fx_types.specs.Shape.{field_term, rest_term, row_term}
use Rattle.fx_unify.specs.declared.store.Root as roots
use Rattle.fx_unify.specs.declared.store.Store as stores
use Rattle.fx_unify.specs.declared.tails.Tails as declared
use Rattle.fx_unify.specs.Part.{Part, part_of, value, Variable, Solved}
use Rattle.fx_unify.specs.Rows.{ground_row, SameAt}
use Rattle.fx_unify.specs.Store.{root_at, rest_in, entry, slots_of, apart_of, slot_names, AreKept, KeptAt}
use Rattle.fx_unify.specs.Sums.{row_names, row_rest}
use Rattle.fx_unify.specs.Tails.{Tells}
use Rattle.fx_unify.specs.Work.{Hold, Holds}
use Rattle.fx_unify.proofs.RowLaws.{value_of, off_row, same_rows}
use Rattle.fx_types.proofs.Choices.{chosen, passed, never, by_cases, neither}
use Rattle.fx_unify.proofs.LabelLaws.{listed_one_more, fresh_label}

-- the rest of a row variable that isn't bound says nothing
pub free_rest : (apart : List Label) (rest : Option roots.Root) (l : Label) → rest ≡ None → rest_in apart rest l ≡ None
free_rest apart rest l e = by_cases (listed l apart) (λ h. rw e (chosen (listed l apart) None None h)) (λ h. rw e (passed (listed l apart) None None h))

-- a row variable that was kept apart at some labels of a list, one label more each step

pub kept_none : (old : stores.Store) (r : ℕ) → KeptAt old old r []
kept_none old r = (λ x. refl, refl, refl, refl, λ l. refl)

pub kept_step : (old st st' : stores.Store) (r : ℕ) (ls : List Label) (i : ℕ) (x : Label) → i < length ls → x ≡ get_or ls i x → KeptAt old st r (take i ls)
    → ((y : Variable) → entry st' y ≡ entry st y) → st'.slots ≡ st.slots → st'.rests ≡ st.rests → st'.work ≡ st.work
    → ((l : Label) → listed l (apart_of st' r) ≡ (if same_text l x then true else listed l (apart_of st r))) → KeptAt old st' r (take (i + 1) ls)
kept_step old st st' r ls i x lt at h same slots rests work apart =
    (λ y. same y ∙ h.0 y, slots ∙ h.1, rests ∙ h.2, work ∙ h.3, λ l. apart l ∙ ap (λ b. if same_text l x then true else b) (h.4 l) ∙ more l)
  where
    next : take (i + 1) ls ≡ take i ls ++ x ∷ []
    next = take_more ls i x lt ∙ ap (λ d. take i ls ++ d ∷ []) (sym at)

    step : (a b c : Bool) → (if a then true else (if b then true else c)) ≡ (if (if a then true else b) then true else c)
    step true b c = refl
    step false b c = refl

    more : (l : Label) → (if same_text l x then true else (if listed l (take i ls) then true else listed l (apart_of old r))) ≡ (if listed l (take (i + 1) ls) then true else listed l (apart_of old r))
    more l =
        step (same_text l x) (listed l (take i ls)) (listed l (apart_of old r))
        ∙ sym (ap (λ b. if b then true else listed l (apart_of old r)) (ap (listed l) next ∙ listed_one_more l x (take i ls)))

-- its rest was bound then
pub linked_off : (old st new : stores.Store) (s : Solution) (r : ℕ) (o : roots.Root) (ls : List Label) → KeptAt old st r ls → AreKept old r ls
    → (Holds s new ↔ (Holds s st × ((l : Label) → listed l (slot_names (slots_of st r)) ≡ false → listed l (apart_of st r) ≡ false → s.row_of r l ≡ value s (root_at l o))))
    → Holds s new ↔ (Holds s old × ((l : Label) → listed l ls ≡ false → s.row_of r l ≡ value s (root_at l o)))
linked_off old st new s r o ls h kept bound = (
  λ n. (before (bound.0 n).0, λ l off. (bound.0 n).1 l (unslotted l off) (h.4 l ∙ passed (listed l ls) true (listed l (apart_of old r)) off ∙ (kept l off).1)),
  λ k. bound.1 (after k.0, λ l slots apart. k.1 l (neither (listed l ls) (listed l (apart_of old r)) (sym (h.4 l) ∙ apart)).0),
)
  where
    unslotted : (l : Label) → listed l ls ≡ false → listed l (slot_names (slots_of st r)) ≡ false
    unslotted l off = ap (λ v. listed l (slot_names (get_or v.items r []))) h.1 ∙ (kept l off).0

    before : Holds s st → Holds s old
    before k = (λ y p at. k.0 y p (h.0 y ∙ at), subst (λ w. Hold s w.items) h.3 k.1)

    after : Holds s old → Holds s st
    after k = (λ y p at. k.0 y p (sym (h.0 y) ∙ at), subst (λ w. Hold s w.items) (sym h.3) k.1)

-- two defaults are the same at some label off the list where they are one field
pub defaults : (st st' : stores.Store) (s : Solution) (d e : FieldTy) (x y : Part) (ls : List Label) → x ≡ part_of (field_term d) → y ≡ part_of (field_term e)
    → ((v : Variable) → entry st' v ≡ entry st v) → (Hold s st'.work.items ↔ (Hold s st.work.items × (value s x ≡ value s y)))
    → Holds s st' ↔ (Holds s st × ((l : Label) → listed l ls ≡ false → ground_field s (field_term d) ≡ ground_field s (field_term e)))
defaults st st' s d e x y ls left right same h = (
  λ k. ((λ v p at. k.0 v p (same v ∙ at), (h.0 k.1).0), λ l off. sym (ap (value s) left ∙ value_of s (field_term d)) ∙ (h.0 k.1).1 ∙ ap (value s) right ∙ value_of s (field_term e)),
  λ k. (
    λ v p at. k.0.0 v p (sym (same v) ∙ at),
    h.1 (k.0.1, ap (value s) left ∙ value_of s (field_term d) ∙ k.1 (fresh_label ls []).0 (fresh_label ls []).1 ∙ sym (ap (value s) right ∙ value_of s (field_term e))),
  ),
)

pub one_tail : (st : stores.Store) (s : Solution) (ls : List Label) → Holds s st ↔ (Holds s st × ((l : Label) → listed l ls ≡ false → Unit {0}))
one_tail st s ls = (λ h. (h, λ l off. tt), λ h. h.0)

-- two rows are the same where they are so at their labels, and their rests are off them
pub compared : (old st new : stores.Store) (s : Solution) (a b : RowTy) (t : declared.Tails) (ls : List Label)
    → ((l : Label) → listed l (row_names a) ≡ true → listed l ls ≡ true) → ((l : Label) → listed l (row_names b) ≡ true → listed l ls ≡ true)
    → ((v : Variable) → entry st v ≡ entry old v)
    → (Hold s st.work.items ↔ (Hold s old.work.items × SameAt (ground_row s (row_term a)) (ground_row s (row_term b)) ls))
    → (Solved s (entry old) → (l : Label) → listed l ls ≡ false → (ground_tail s (rest_term (row_rest a)) l ≡ ground_tail s (rest_term (row_rest b)) l) ↔ Tells t s l)
    → (Holds s new ↔ (Holds s st × ((l : Label) → listed l ls ≡ false → Tells t s l)))
    → Holds s new ↔ (Holds s old × (ground_row s (row_term a) ≡ ground_row s (row_term b)))
compared old st new s a b t ls in_a in_b same put_off tells met = (forth, back)
  where
    A : GroundRow
    A = ground_row s (row_term a)

    B : GroundRow
    B = ground_row s (row_term b)

    unlisted : (row : RowTy) → ((l : Label) → listed l (row_names row) ≡ true → listed l ls ≡ true) → (l : Label) → listed l ls ≡ false → listed l (row_names row) ≡ false
    unlisted row more l off = by_cases (listed l (row_names row)) (λ e. never (listed l ls) (more l e) off) (λ e. e)

    forth : Holds s new → Holds s old × (A ≡ B)
    forth h =
        let m : Holds s st × ((l : Label) → listed l ls ≡ false → Tells t s l) = met.0 h in
        let p : Hold s old.work.items × SameAt A B ls = put_off.0 m.0.1 in
        let solved : Solved s (entry old) = λ v q at. m.0.0 v q (same v ∙ at) in
        ((solved, p.0), (same_rows A B ls).0 (p.1, λ l off. off_row s a l (unlisted a in_a l off) ∙ (tells solved l off).1 (m.1 l off) ∙ sym (off_row s b l (unlisted b in_b l off))))

    back : Holds s old × (A ≡ B) → Holds s new
    back k =
        let p : SameAt A B ls × ((l : Label) → listed l ls ≡ false → A l ≡ B l) = (same_rows A B ls).1 k.1 in
        met.1 (
          (λ v q at. k.0.0 v q (sym (same v) ∙ at), put_off.1 (k.0.1, p.0)),
          λ l off. (tells k.0.0 l off).0 (sym (off_row s a l (unlisted a in_a l off)) ∙ p.1 l off ∙ off_row s b l (unlisted b in_b l off)),
        )
