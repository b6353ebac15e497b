-- Lists of labels with types, one entry more at the end.
use Rattle.std.proofs.Common.{◌≡◌, ◌↔◌, refl, sym, ap, subst, ◌∙◌, ℕ, ◌+◌, ◌≤◌, ◌<◌, max, Bool, true, false, List, [], ◌∷◌, ◌++◌, take, length, get_or, arith}
use Rattle.std.specs.Prelude.{if◌then◌else◌}
use Rattle.std.proofs.lemmas.List.{take_more}
use mathlib.Core.Bool.{true≢false}
use Rattle.fx_base.specs.Text.{same_text}
use Rattle.fx_types.specs.Ground.{Ground, GroundField, g_absent, g_is, listed}
use Rattle.fx_types.specs.Instance.{Solution, ground, ground_labels}
use Rattle.fx_types.specs.Numbers.{numbers, numbers_labels}
use Rattle.fx_types.specs.Raised.{raised, from}
use Rattle.fx_types.specs.Shape.{term, label_term}
use Rattle.fx_types.specs.Size.{IsType}
use Rattle.fx_types.specs.Term.{Label}
use Rattle.fx_types.specs.declared.term.LabelTy.{LabelTy}
use Rattle.fx_types.proofs.Choices.{chosen, passed, by_cases, neither}
use Rattle.fx_types.proofs.Lists.{take_all}
use Rattle.fx_types.proofs.RaisedLaws.{ground_raised}
use Rattle.fx_types.proofs.RowSums.{same_is, same_itself}
use Rattle.fx_types.proofs.ShapeLaws.{labelled_is}
use Rattle.fx_unify.specs.declared.bindings.Bindings.{Bindings}
use Rattle.fx_unify.specs.Solutions.{Solves, next_of}
use Rattle.fx_infer.specs.Arguments.{IsTypeOrAbsent}
use Rattle.fx_infer.specs.Lists.{entry_names, labels_in, AreRaised}

-- the first field, or else the second
abbrev pub or_field : GroundField → GroundField → GroundField
or_field (g_is t) f = g_is t
or_field g_absent f = f

-- what one entry says of a label
abbrev pub field_by : Label → Label → Ground → GroundField
field_by l x t = if same_text l x then g_is t else g_absent

or_later : (c : Bool) (a f : GroundField) (t : Ground) (b : GroundField) → b ≡ or_field a f → (if c then g_is t else b) ≡ or_field (if c then g_is t else a) f
or_later true a f t b e = refl
or_later false a f t b e = e

or_same : (c : Bool) (t : Ground) → (if c then g_is t else g_absent) ≡ or_field g_absent (if c then g_is t else g_absent)
or_same c t = refl

pub entry_more : (s : Solution) (es : List LabelTy) (e : LabelTy) (l : Label) → ground_labels s (labels_in (es ++ e ∷ [])) l ≡ or_field (ground_labels s (labels_in es) l) (field_by l e.label (ground s (term e.ty)))
entry_more s [] e l = λ i. if same_text l (labelled_is e i).label then g_is (ground s (labelled_is e i).type) else g_absent
entry_more s (d ∷ es) e l =
    or_later (same_text l (label_term d).label) (ground_labels s (labels_in es) l) (field_by l e.label (ground s (term e.ty))) (ground s (label_term d).type) (ground_labels s (labels_in (es ++ e ∷ [])) l) (entry_more s es e l)

pub numbers_more : (es : List LabelTy) (e : LabelTy) → numbers_labels (labels_in (es ++ e ∷ [])) ≡ max (numbers_labels (labels_in es)) (numbers (term e.ty))
numbers_more [] e = let same : numbers (label_term e).type ≡ numbers (term e.ty) = ap (λ o. numbers o.type) (labelled_is e) in omega arith
numbers_more (d ∷ es) e = let h : numbers_labels (labels_in (es ++ e ∷ [])) ≡ max (numbers_labels (labels_in es)) (numbers (term e.ty)) = numbers_more es e in omega arith

-- a listed label has a type, and no other has

name_is : (e : LabelTy) → (label_term e).label ≡ e.label
name_is e = ap (λ o. o.label) (labelled_is e)

pub entry_there : (s : Solution) (es : List LabelTy) (l : Label) → listed l (entry_names es) ≡ true → (t : Ground) × (ground_labels s (labels_in es) l ≡ g_is t)
entry_there s [] l h = absurd (true≢false (sym h))
entry_there s (e ∷ es) l h =
    by_cases (same_text l (label_term e).label)
    (λ c. (ground s (label_term e).type, chosen (same_text l (label_term e).label) (g_is (ground s (label_term e).type)) (ground_labels s (labels_in es) l) c))
    (λ c. (let r : (t : Ground) × (ground_labels s (labels_in es) l ≡ g_is t) = entry_there s es l (sym (passed (same_text l e.label) true (listed l (entry_names es)) (sym (ap (same_text l) (name_is e)) ∙ c)) ∙ h) in
    (r.0, passed (same_text l (label_term e).label) (g_is (ground s (label_term e).type)) (ground_labels s (labels_in es) l) c ∙ r.1)))

pub entry_off : (s : Solution) (es : List LabelTy) (l : Label) → listed l (entry_names es) ≡ false → ground_labels s (labels_in es) l ≡ g_absent
entry_off s [] l h = refl
entry_off s (e ∷ es) l h =
    let apart : (same_text l e.label ≡ false) × (listed l (entry_names es) ≡ false) = neither (same_text l e.label) (listed l (entry_names es)) h in
    passed (same_text l (label_term e).label) (g_is (ground s (label_term e).type)) (ground_labels s (labels_in es) l) (ap (same_text l) (name_is e) ∙ apart.0) ∙ entry_off s es l apart.1

-- types at all labels

or_first : (a f : GroundField) → IsTypeOrAbsent (or_field a f) → IsTypeOrAbsent a
or_first g_absent f h = tt
or_first (g_is t) f h = h

or_both : (a f : GroundField) → IsTypeOrAbsent a → IsTypeOrAbsent f → IsTypeOrAbsent (or_field a f)
or_both g_absent f h k = k
or_both (g_is t) f h k = h

by_type : (c : Bool) (t : Ground) → IsType t → IsTypeOrAbsent (if c then g_is t else g_absent)
by_type true t h = h
by_type false t h = tt

abbrev pub HaveTypes : Solution → List LabelTy → Type 0
HaveTypes s es = (l : Label) → IsTypeOrAbsent (ground_labels s (labels_in es) l)

pub types_more : (s : Solution) (es : List LabelTy) (e : LabelTy) → listed e.label (entry_names es) ≡ false → HaveTypes s (es ++ e ∷ []) ↔ (HaveTypes s es × IsType (ground s (term e.ty)))
types_more s es e off = (
  λ h. (
    λ l. or_first (ground_labels s (labels_in es) l) (field_by l e.label (ground s (term e.ty))) (subst IsTypeOrAbsent (entry_more s es e l) (h l)),
    subst IsTypeOrAbsent
        (entry_more s es e e.label ∙ (λ i. or_field (entry_off s es e.label off i) (field_by e.label e.label (ground s (term e.ty)))) ∙ chosen (same_text e.label e.label) (g_is (ground s (term e.ty))) g_absent (same_itself e.label))
        (h e.label),
  ),
  λ h l. subst IsTypeOrAbsent (sym (entry_more s es e l)) (or_both (ground_labels s (labels_in es) l) (field_by l e.label (ground s (term e.ty))) (h.0 l) (by_type (same_text l e.label) (ground s (term e.ty)) h.1)),
)

-- entries raised one after another

next_take : (es : List LabelTy) (i : ℕ) (e : LabelTy) → i < length es → e ≡ get_or es i e → take (i + 1) es ≡ take i es ++ e ∷ []
next_take es i e lt at = take_more es i e lt ∙ ap (λ d. take i es ++ d ∷ []) (sym at)

pub raised_start : (k : ℕ) (old : Bindings) (es : List LabelTy) → AreRaised k old (take 0 es) old []
raised_start k old es = record { same = λ s l. refl; asked = λ s. (λ h. (h, λ l. tt), λ h. h.0); more = (let le : next_of old ≤ next_of old = omega arith in le); below = (let le : 0 ≤ next_of old = omega arith in le) }

pub raised_more : (k : ℕ) (old asked new : Bindings) (es rs more : List LabelTy) (i : ℕ) (e r : LabelTy) → i < length es → e ≡ get_or es i e → AreRaised k old (take i es) asked rs
    → listed e.label (entry_names rs) ≡ false → r.label ≡ e.label → term r.ty ≡ raised k (term e.ty) → more ≡ rs ++ r ∷ []
    → ((s : Solution) → Solves s new ↔ (Solves s asked × IsType (ground s (term r.ty)))) → next_of new ≡ max (next_of asked) (numbers (term r.ty)) → AreRaised k old (take (i + 1) es) new more
raised_more k old asked new es rs more i e r lt at before off label type pushed one next = record { same = same; asked = both; more = (let a : next_of old ≤ next_of asked = before.more in omega arith); below = below }
  where
    becomes : (s : Solution) → ground s (term r.ty) ≡ ground (from k s) (term e.ty)
    becomes s = ap (ground s) type ∙ ground_raised k s (term e.ty)

    same : (s : Solution) (l : Label) → ground_labels s (labels_in more) l ≡ ground_labels (from k s) (labels_in (take (i + 1) es)) l
    same s l =
        ap (λ xs. ground_labels s (labels_in xs) l) pushed ∙ entry_more s rs r l ∙ (λ j. or_field (before.same s l j) (field_by l (label j) (becomes s j)))
        ∙ sym (entry_more (from k s) (take i es) e l) ∙ ap (λ xs. ground_labels (from k s) (labels_in xs) l) (sym (next_take es i e lt at))

    apart : listed r.label (entry_names rs) ≡ false
    apart = ap (λ x. listed x (entry_names rs)) label ∙ off

    both : (s : Solution) → Solves s new ↔ (Solves s old × HaveTypes s more)
    both s = (
      λ h. (let a : Solves s asked × IsType (ground s (term r.ty)) = (one s).0 h in
          let b : Solves s old × HaveTypes s rs = (before.asked s).0 a.0 in
          (b.0, subst (HaveTypes s) (sym pushed) ((types_more s rs r apart).1 (b.1, a.1)))),
      λ h. (let b : HaveTypes s rs × IsType (ground s (term r.ty)) = (types_more s rs r apart).0 (subst (HaveTypes s) pushed h.1) in (one s).1 ((before.asked s).1 (h.0, b.0), b.1)),
    )

    below : numbers_labels (labels_in more) ≤ next_of new
    below =
        let a : numbers_labels (labels_in more) ≡ max (numbers_labels (labels_in rs)) (numbers (term r.ty)) = ap (λ xs. numbers_labels (labels_in xs)) pushed ∙ numbers_more rs r in
        let b : numbers_labels (labels_in rs) ≤ next_of asked = before.below in
        omega arith

or_kept : (a f : GroundField) (t : Ground) → a ≡ g_is t → or_field a f ≡ a
or_kept (g_is u) f t e = refl
or_kept g_absent f t e = cc

or_nothing : (a : GroundField) → or_field a g_absent ≡ a
or_nothing (g_is u) = refl
or_nothing g_absent = refl

-- an entry that is hidden by an earlier one
pub raised_same : (k : ℕ) (old asked : Bindings) (es rs : List LabelTy) (i : ℕ) (e : LabelTy) → i < length es → e ≡ get_or es i e → AreRaised k old (take i es) asked rs
    → listed e.label (entry_names rs) ≡ true → AreRaised k old (take (i + 1) es) asked rs
raised_same k old asked es rs i e lt at before hidden = record { same = same; asked = before.asked; more = before.more; below = before.below }
  where
    at_label : (q : Solution) (s : Solution) (l : Label) → (ground_labels s (labels_in rs) l ≡ ground_labels q (labels_in (take i es)) l)
        → or_field (ground_labels q (labels_in (take i es)) l) (field_by l e.label (ground q (term e.ty))) ≡ ground_labels q (labels_in (take i es)) l
    at_label q s l was =
        by_cases (same_text l e.label)
        (λ c. (let there : (t : Ground) × (ground_labels s (labels_in rs) l ≡ g_is t) = entry_there s rs l (ap (λ x. listed x (entry_names rs)) (same_is l e.label c) ∙ hidden) in
        or_kept (ground_labels q (labels_in (take i es)) l) (field_by l e.label (ground q (term e.ty))) there.0 (sym was ∙ there.1)))
        (λ c. ap (or_field (ground_labels q (labels_in (take i es)) l)) (passed (same_text l e.label) (g_is (ground q (term e.ty))) g_absent c) ∙ or_nothing (ground_labels q (labels_in (take i es)) l))

    same : (s : Solution) (l : Label) → ground_labels s (labels_in rs) l ≡ ground_labels (from k s) (labels_in (take (i + 1) es)) l
    same s l =
        before.same s l ∙ sym (at_label (from k s) s l (before.same s l)) ∙ sym (entry_more (from k s) (take i es) e l)
        ∙ ap (λ xs. ground_labels (from k s) (labels_in xs) l) (sym (next_take es i e lt at))

pub raised_all : (k : ℕ) (old new : Bindings) (es rs : List LabelTy) (i : ℕ) → length es ≤ i → AreRaised k old (take i es) new rs → AreRaised k old es new rs
raised_all k old new es rs i le h = subst (λ xs. AreRaised k old xs new rs) (take_all es i le) h

-- what a search tells

pub listed_from : (l : Label) (xs es : List LabelTy) (r : Bool) → xs ≡ es → r ≡ listed l (entry_names xs) → r ≡ true → listed l (entry_names es) ≡ true
listed_from l xs es r same is e = ap (λ ys. listed l (entry_names ys)) (sym same) ∙ sym is ∙ e

pub unlisted_from : (l : Label) (xs es : List LabelTy) (r : Bool) → xs ≡ es → r ≡ listed l (entry_names xs) → r ≡ false → listed l (entry_names es) ≡ false
unlisted_from l xs es r same is e = ap (λ ys. listed l (entry_names ys)) (sym same) ∙ sym is ∙ e
