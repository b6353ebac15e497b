-- Rows, label by label.
use Rattle.std.proofs.Common.{◌≡◌, ◌↔◌, refl, sym, ap, subst, ◌∙◌, ℕ, zero, suc, ◌+◌, ◌<◌, true, false, List, [], ◌∷◌, ◌++◌, map, take, get_or, set, length, Result, Ok, Err, IfOk, arith}
use Rattle.std.specs.Prelude.{if◌then◌else◌}
use Rattle.std.proofs.lemmas.List.{take_more, map-append}
use mathlib.Core.Bool.{true≢false}
use Rattle.fx_base.specs.Text.{same_text}
use Rattle.fx_types.specs.declared.term.LabelField.{LabelField}
use Rattle.fx_types.specs.declared.term.LabelTy.{LabelTy}
use Rattle.fx_types.specs.declared.term.RowTy.{RowTy}
use Rattle.fx_types.specs.declared.term.Ty.{Ty}
use Rattle.fx_types.specs.declared.term.FieldTy.TheVariants as declared_field
use Rattle.fx_types.specs.declared.term.Rest.TheVariants as declared_rest
use Rattle.fx_types.specs.declared.term.FieldTy.TheViews.{out-RowTy, roll-RowTy, out-roll-RowTy}
use Rattle.fx_types.specs.Term.{Label, Field, absent, is, field_variable}
use Rattle.fx_types.specs.Ground.{GroundField, GroundRow, g_absent, g_is, listed}
use Rattle.fx_types.specs.Instance.{Solution, ground, ground_field, ground_fields, ground_labels, ground_tail}
use Rattle.fx_types.specs.Shape.{term, field_term, entry_term, label_term, rest_term, row_term, fields_of, labels_of}
use Rattle.fx_types.specs.Size.{AreDistinct}
use Rattle.fx_types.proofs.ShapeLaws.{entry_is, labelled_is, row_is, field_absent, field_is, tail_default}
use Rattle.fx_unify.specs.Part.{value, part_of}
use Rattle.fx_unify.specs.Pick.{IsFirst}
use Rattle.fx_unify.specs.Rows.{ground_row, SameAt, as_field}
use Rattle.fx_unify.specs.Sums.{names, row_names, row_rest}
use Rattle.fx_types.proofs.Choices.{chosen, passed, never, by_cases, neither}
use Rattle.fx_types.proofs.RowSums.{same_is, same_itself}
use Rattle.fx_unify.proofs.LabelLaws.{listed_one_more}

pub if_ok : {A E : Type 0} {P Q : A → Type 0} (r : Result A E) → ((x : A) → P x → Q x) → IfOk r P → IfOk r Q
if_ok (Ok x) f p = f x p
if_ok (Err e) f p = tt

pub value_of : (s : Solution) (f : Field) → value s (part_of f) ≡ ground_field s f
value_of s absent = refl
value_of s (is t) = refl
value_of s (field_variable n) = refl

pub ground_row_is : (s : Solution) (r : RowTy) (l : Label)
    → ground_row s (row_term r) l ≡ ground_fields s (fields_of (map entry_term (out-RowTy r).fields)) (ground_tail s (rest_term (out-RowTy r).rest)) l
ground_row_is s r l = ap (λ x. ground_row s x l) (row_is r)

-- off its labels a row is what its rest gives

pub off_fields : (s : Solution) (es : List LabelField) (q : GroundRow) (l : Label) → listed l (names es) ≡ false → ground_fields s (fields_of (map entry_term es)) q l ≡ q l
off_fields s [] q l h = refl
off_fields s (e ∷ es) q l h =
    let apart : (same_text l e.label ≡ false) × (listed l (names es) ≡ false) = neither (same_text l e.label) (listed l (names es)) h in
    rw (entry_is e) (passed (same_text l e.label) (ground_field s (field_term e.field)) (ground_fields s (fields_of (map entry_term es)) q l) apart.0) ∙ off_fields s es q l apart.1

pub off_row : (s : Solution) (row : RowTy) (l : Label) → listed l (row_names row) ≡ false → ground_row s (row_term row) l ≡ ground_tail s (rest_term (row_rest row)) l
off_row s row l h = ground_row_is s row l ∙ off_fields s (out-RowTy row).fields (ground_tail s (rest_term (out-RowTy row).rest)) l h

-- two rows are the same where they are so at some labels and off them

pub at_listed : (r q : GroundRow) (ls : List Label) (l : Label) → SameAt r q ls → listed l ls ≡ true → r l ≡ q l
at_listed r q [] l h k = absurd (true≢false (sym k))
at_listed r q (x ∷ ls) l h k =
    by_cases (same_text l x) (λ e. subst (λ y. r y ≡ q y) (sym (same_is l x e)) h.0)
    (λ e. at_listed r q ls l h.1 (sym (passed (same_text l x) true (listed l ls) e) ∙ k))

same_at : (r q : GroundRow) (ls : List Label) → r ≡ q → SameAt r q ls
same_at r q [] e = tt
same_at r q (l ∷ ls) e = (λ i. e i l, same_at r q ls e)

pub same_rows : (r q : GroundRow) (ls : List Label) → (SameAt r q ls × ((l : Label) → listed l ls ≡ false → r l ≡ q l)) ↔ (r ≡ q)
same_rows r q ls = (
  λ h i l. by_cases (listed l ls) (λ k. at_listed r q ls l h.0 k) (λ k. h.1 l k) i,
  λ e. (same_at r q ls e, λ l k i. e i l),
)

same_at_more : (r q : GroundRow) (ls : List Label) (x : Label) → SameAt r q (ls ++ x ∷ []) ↔ (SameAt r q ls × (r x ≡ q x))
same_at_more r q [] x = (λ h. (tt, h.0), λ h. (h.1, tt))
same_at_more r q (l ∷ ls) x =
    let h : SameAt r q (ls ++ x ∷ []) ↔ (SameAt r q ls × (r x ≡ q x)) = same_at_more r q ls x in
    (λ k. ((k.0, (h.0 k.1).0), (h.0 k.1).1), λ k. (k.0.0, h.1 (k.0.1, k.1)))

-- one label after the other, each once

pub label_step : {A B C : Type 0} (r q : GroundRow) (ls : List Label) (i : ℕ) (l : Label) (x y : GroundField) → i < length ls → l ≡ get_or ls i l
    → x ≡ r l → y ≡ q l → A ↔ (B × (x ≡ y)) → B ↔ (C × SameAt r q (take i ls)) → A ↔ (C × SameAt r q (take (i + 1) ls))
label_step r q ls i l x y lt at left right h k =
    let next : take (i + 1) ls ≡ take i ls ++ l ∷ [] = take_more ls i l lt ∙ ap (λ d. take i ls ++ d ∷ []) (sym at) in
    let m : SameAt r q (take i ls ++ l ∷ []) ↔ (SameAt r q (take i ls) × (r l ≡ q l)) = same_at_more r q (take i ls) l in (
      λ a. ((k.0 (h.0 a).0).0, subst (SameAt r q) (sym next) (m.1 ((k.0 (h.0 a).0).1, sym left ∙ (h.0 a).1 ∙ right))),
      λ w. h.1 (k.1 (w.0, (m.0 (subst (SameAt r q) next w.1)).0), left ∙ (m.0 (subst (SameAt r q) next w.1)).1 ∙ sym right),
    )

item_listed : (ls : List Label) (i : ℕ) (l : Label) → i < length ls → l ≡ get_or ls i l → listed l ls ≡ true
item_listed [] i l lt at = absurd (omega arith)
item_listed (x ∷ ls) zero l lt at = chosen (same_text l x) true (listed l ls) (subst (λ y. same_text l y ≡ true) at (same_itself l))
item_listed (x ∷ ls) (suc i) l lt at =
    by_cases (same_text l x) (λ e. chosen (same_text l x) true (listed l ls) e) (λ e. passed (same_text l x) true (listed l ls) e ∙ item_listed ls i l (omega arith) at)

pub once : (ls : List Label) (i : ℕ) (l : Label) → AreDistinct ls → i < length ls → l ≡ get_or ls i l → listed l (take i ls) ≡ false
once [] i l d lt at = absurd (omega arith)
once (x ∷ ls) zero l d lt at = refl
once (x ∷ ls) (suc i) l d lt at =
    by_cases (same_text l x) (λ e. never (listed l ls) (item_listed ls i l (omega arith) at) (subst (λ y. listed y ls ≡ false) (sym (same_is l x e)) d.0))
    (λ e. passed (same_text l x) true (listed l (take i ls)) e ∙ once ls i l d.1 (omega arith) at)

-- what is left of a row after what it has at one label was taken out
pub left_over : (f g h : Solution → GroundRow) (ls : List Label) (i : ℕ) (x : Label) → i < length ls → x ≡ get_or ls i x
    → ((s : Solution) (l : Label) → same_text l x ≡ false → g s l ≡ f s l) → ((s : Solution) (l : Label) → listed l (take i ls) ≡ false → f s l ≡ h s l)
    → (s : Solution) (l : Label) → listed l (take (i + 1) ls) ≡ false → g s l ≡ h s l
left_over f g h ls i x lt at others before s l off =
    let next : take (i + 1) ls ≡ take i ls ++ x ∷ [] = take_more ls i x lt ∙ ap (λ d. take i ls ++ d ∷ []) (sym at) in
    let apart : (same_text l x ≡ false) × (listed l (take i ls) ≡ false) =
    neither (same_text l x) (listed l (take i ls)) (sym (listed_one_more l x (take i ls)) ∙ sym (ap (listed l) next) ∙ off) in
    others s l apart.0 ∙ before s l apart.1

-- the field at the first place of a label is what the fields give there

pub first_field : (s : Solution) (es : List LabelField) (i : ℕ) (e : LabelField) (q : GroundRow) (l : Label) → e ≡ get_or es i e → IsFirst l (names es) i
    → ground_field s (field_term e.field) ≡ ground_fields s (fields_of (map entry_term es)) q l
first_field s [] i e q l at first = absurd first
first_field s (d ∷ es) zero e q l at first =
    ap (λ x. ground_field s (field_term x.field)) at
    ∙ sym (rw (entry_is d) (chosen (same_text l d.label) (ground_field s (field_term d.field)) (ground_fields s (fields_of (map entry_term es)) q l) first))
first_field s (d ∷ es) (suc i) e q l at first =
    first_field s es i e q l at first.1
    ∙ sym (rw (entry_is d) (passed (same_text l d.label) (ground_field s (field_term d.field)) (ground_fields s (fields_of (map entry_term es)) q l) first.0))

-- another field there changes nothing at other labels
pub other_fields : (s : Solution) (es : List LabelField) (i : ℕ) (e f : LabelField) (q : GroundRow) (x l : Label) → e ≡ get_or es i e → f.label ≡ e.label → IsFirst x (names es) i
    → same_text l x ≡ false → ground_fields s (fields_of (map entry_term (set es i f))) q l ≡ ground_fields s (fields_of (map entry_term es)) q l
other_fields s [] i e f q x l at label first apart = absurd first
other_fields s (d ∷ es) zero e f q x l at label first apart =
    let not_old : same_text l d.label ≡ false = ap (same_text l) (sym (same_is x d.label first)) ∙ apart in
    let not_new : same_text l f.label ≡ false = ap (same_text l) (label ∙ ap (λ y. y.label) at) ∙ not_old in
    rw (entry_is f, entry_is d) (passed (same_text l f.label) (ground_field s (field_term f.field)) (ground_fields s (fields_of (map entry_term es)) q l) not_new
    ∙ sym (passed (same_text l d.label) (ground_field s (field_term d.field)) (ground_fields s (fields_of (map entry_term es)) q l) not_old))
other_fields s (d ∷ es) (suc i) e f q x l at label first apart =
    rw (entry_is d) (ap (λ y. if same_text l d.label then ground_field s (field_term d.field) else y) (other_fields s es i e f q x l at label first.1 apart))

-- the labels of a function as a row

pub label_moved : (fs gs : List LabelField) (es : List LabelTy) (e : LabelTy) (l : Label) (t : Ty)
    → gs ≡ fs ++ (record { label = l; field = declared_field.Is t }) ∷ [] → l ≡ e.label → t ≡ e.ty
    → map entry_term fs ≡ map as_field es → map entry_term gs ≡ map as_field (es ++ e ∷ [])
label_moved fs gs es e l t pushed label type h =
    let x : LabelField = record { label = l; field = declared_field.Is t } in
    let same : entry_term x ≡ as_field e = entry_is x ∙ (λ j. record { label = label j; field = (field_is t ∙ ap (λ u. is (term u)) type) j }) in
    ap (map entry_term) pushed ∙ map-append entry_term fs (x ∷ []) ∙ (λ j. h j ++ same j ∷ []) ∙ sym (map-append as_field es (e ∷ []))

labels_as_fields : (s : Solution) (q : GroundRow) (ls : List LabelTy) (l : Label) → q l ≡ g_absent
    → ground_fields s (fields_of (map as_field ls)) q l ≡ ground_labels s (labels_of (map label_term ls)) l
labels_as_fields s q [] l h = h
labels_as_fields s q (e ∷ ls) l h =
    rw (labelled_is e) (ap (λ y. if same_text l e.label then g_is (ground s (term e.ty)) else y) (labels_as_fields s q ls l h))

pub labels_row_is : (fs : List LabelField) (ls : List LabelTy) → map entry_term fs ≡ map as_field ls → (s : Solution) (l : Label)
    → ground_row s (row_term (roll-RowTy (record { fields = fs; rest = declared_rest.Default declared_field.Absent }))) l ≡ ground_labels s (labels_of (map label_term ls)) l
labels_row_is fs ls h s l =
    ground_row_is s (roll-RowTy (record { fields = fs; rest = declared_rest.Default declared_field.Absent })) l
    ∙ ap (λ o. ground_fields s (fields_of (map entry_term o.fields)) (ground_tail s (rest_term o.rest)) l) (out-roll-RowTy (record { fields = fs; rest = declared_rest.Default declared_field.Absent }))
    ∙ ap (λ es. ground_fields s (fields_of es) (ground_tail s (rest_term (declared_rest.Default declared_field.Absent))) l) h
    ∙ labels_as_fields s (ground_tail s (rest_term (declared_rest.Default declared_field.Absent))) ls l
    (ap (λ r. ground_tail s r l) (tail_default declared_field.Absent) ∙ ap (ground_field s) field_absent)
