-- Arguments put apart by whether they may be left out.
use Rattle.std.proofs.Common.{◌≡◌, ◌↔◌, inl, inr, refl, sym, ap, subst, ◌∙◌, ℕ, zero, suc, ◌+◌, ◌≤◌, ◌<◌, max, Bool, true, false, not, List, [], ◌∷◌, ◌++◌, take, length, get_or, Option, None, Some, arith}
use Rattle.std.specs.Prelude.{if◌then◌else◌}
use Rattle.std.proofs.lemmas.List.{take_more}
use mathlib.Core.Bool.{true≢false}
use Rattle.fx_base.specs.Text.{same_text}
use Rattle.fx_types.specs.Ground.{Ground, GroundField, g_absent, g_is, listed}
use Rattle.fx_types.specs.Instance.{Solution, ground, ground_labels}
use Rattle.fx_types.specs.Shape.{term}
use Rattle.fx_types.specs.Term.{Label}
use Rattle.fx_types.specs.declared.term.LabelTy.{LabelTy}
use Rattle.fx_types.proofs.Choices.{chosen, passed, by_cases}
use Rattle.fx_types.proofs.Lists.{take_all}
use Rattle.fx_types.proofs.RowSums.{same_is, same_itself}
use Rattle.fx_types.proofs.ShapeLaws.{labelled_is}
use Rattle.fx_schemes.specs.Builtins.{differ}
use Rattle.fx_schemes.specs.Line.{take_out}
use Rattle.fx_unify.specs.declared.bindings.Bindings.{Bindings}
use Rattle.fx_unify.specs.Solutions.{Solves, next_of}
use Rattle.fx_infer.specs.Calls.{Suits, unless_free, AllSuit, AreSplit, entry_of}
use Rattle.fx_infer.specs.Lists.{entry_names, labels_in}
use Rattle.fx_infer.proofs.EntryLaws.{or_field, field_by, entry_more, entry_off}

-- each label once

listed_at : (xs : List Label) (i : ℕ) (x : Label) → i < length xs → x ≡ get_or xs i x → listed x xs ≡ true
listed_at [] i x lt at = absurd (omega arith)
listed_at (y ∷ ys) zero x lt at = ap (λ z. if same_text x z then true else listed x ys) (sym at) ∙ chosen (same_text x x) true (listed x ys) (same_itself x)
listed_at (y ∷ ys) (suc i) x lt at = either (same_text x y) (listed x ys) (listed_at ys i x (omega arith) at)
  where
    either : (a b : Bool) → b ≡ true → (if a then true else b) ≡ true
    either true b e = refl
    either false b e = e

once : (y : Label) (ys : List Label) → differ (y ∷ ys) ≡ true → (listed y ys ≡ false) × (differ ys ≡ true)
once y ys e = parts (listed y ys) (differ ys) e
  where
    parts : (a b : Bool) → (if a then false else b) ≡ true → (a ≡ false) × (b ≡ true)
    parts true b e = absurd (true≢false (sym e))
    parts false b e = (refl, e)

pub new_label : (xs : List Label) (i : ℕ) (x : Label) → differ xs ≡ true → i < length xs → x ≡ get_or xs i x → listed x (take i xs) ≡ false
new_label [] i x d lt at = absurd (omega arith)
new_label (y ∷ ys) zero x d lt at = refl
new_label (y ∷ ys) (suc i) x d lt at =
    by_cases (same_text x y)
    (λ c. absurd (true≢false (sym (ap (λ z. listed z ys) (sym (same_is x y c)) ∙ listed_at ys i x (omega arith) at) ∙ (once y ys d).0)))
    (λ c. passed (same_text x y) true (listed x (take i ys)) c ∙ new_label ys i x (once y ys d).1 (omega arith) at)

names_take : (es : List LabelTy) (i : ℕ) → entry_names (take i es) ≡ take i (entry_names es)
names_take es zero = refl
names_take [] (suc i) = refl
names_take (e ∷ es) (suc i) = ap (λ xs. e.label ∷ xs) (names_take es i)

names_length : (es : List LabelTy) → length (entry_names es) ≡ length es
names_length [] = refl
names_length (e ∷ es) = ap suc (names_length es)

names_at : (es : List LabelTy) (i : ℕ) (e : LabelTy) → i < length es → e ≡ get_or es i e → e.label ≡ get_or (entry_names es) i e.label
names_at [] i e lt at = absurd (omega arith)
names_at (d ∷ es) zero e lt at = ap (λ x. x.label) at
names_at (d ∷ es) (suc i) e lt at = names_at es i e (omega arith) at

pub new_entry : (es : List LabelTy) (i : ℕ) (e : LabelTy) → differ (entry_names es) ≡ true → i < length es → e ≡ get_or es i e → listed e.label (entry_names (take i es)) ≡ false
new_entry es i e d lt at =
    let many : length (entry_names es) ≡ length es = names_length es in
    ap (listed e.label) (names_take es i) ∙ new_label (entry_names es) i e.label d (omega arith) (names_at es i e lt at)

-- the first entry of a label

abbrev pub field_in : Solution → Option LabelTy → GroundField
field_in s None = g_absent
field_in s (Some e) = g_is (ground s (term e.ty))

entry_choice : (s : Solution) (e : LabelTy) (o : Option LabelTy) (a : GroundField) (c : Bool) → a ≡ field_in s o → (if c then g_is (ground s (term e.ty)) else a) ≡ field_in s (if c then Some e else o)
entry_choice s e o a true h = refl
entry_choice s e o a false h = h

pub entry_field : (s : Solution) (es : List LabelTy) (l : Label) → ground_labels s (labels_in es) l ≡ field_in s (entry_of l es)
entry_field s [] l = refl
entry_field s (e ∷ es) l =
    (λ i. if same_text l (labelled_is e i).label then g_is (ground s (labelled_is e i).type) else ground_labels s (labels_in es) l)
    ∙ entry_choice s e (entry_of l es) (ground_labels s (labels_in es) l) (same_text l e.label) (entry_field s es l)

-- what suits, one argument more

suits_first : (o a f : GroundField) → Suits o (or_field a f) → Suits o a
suits_first g_absent a f h = tt
suits_first (g_is t) g_absent f h = inl refl
suits_first (g_is t) (g_is u) f h = h

suits_both : (o a f : GroundField) → Suits o a → Suits o f → Suits o (or_field a f)
suits_both g_absent a f h k = tt
suits_both (g_is t) g_absent f h k = k
suits_both (g_is t) (g_is u) f h k = h

suits_nothing : (o : GroundField) → Suits o g_absent
suits_nothing g_absent = tt
suits_nothing (g_is t) = inl refl

suits_same : (t u : Ground) → Suits (g_is t) (g_is u) → u ≡ t
suits_same t u (inl e) = cc
suits_same t u (inr e) = cc

pub suits_more : (s : Solution) (os es : List LabelTy) (e : LabelTy) → listed e.label (entry_names es) ≡ false
    → AllSuit s os (es ++ e ∷ []) ↔ (AllSuit s os es × Suits (ground_labels s (labels_in os) e.label) (g_is (ground s (term e.ty))))
suits_more s os es e off = (
  λ h. (
    λ l. suits_first (ground_labels s (labels_in os) l) (ground_labels s (labels_in es) l) (field_by l e.label (ground s (term e.ty))) (subst (Suits (ground_labels s (labels_in os) l)) (entry_more s es e l) (h l)),
    subst (Suits (ground_labels s (labels_in os) e.label))
        (entry_more s es e e.label ∙ (λ i. or_field (entry_off s es e.label off i) (field_by e.label e.label (ground s (term e.ty)))) ∙ chosen (same_text e.label e.label) (g_is (ground s (term e.ty))) g_absent (same_itself e.label))
        (h e.label),
  ),
  λ h l. subst (Suits (ground_labels s (labels_in os) l)) (sym (entry_more s es e l))
      (suits_both (ground_labels s (labels_in os) l) (ground_labels s (labels_in es) l) (field_by l e.label (ground s (term e.ty))) (h.0 l)
      (by_cases (same_text l e.label)
      (λ c. subst (Suits (ground_labels s (labels_in os) l)) (sym (chosen (same_text l e.label) (g_is (ground s (term e.ty))) g_absent c))
      (subst (λ m. Suits (ground_labels s (labels_in os) m) (g_is (ground s (term e.ty)))) (sym (same_is l e.label c)) h.1))
      (λ c. subst (Suits (ground_labels s (labels_in os) l)) (sym (passed (same_text l e.label) (g_is (ground s (term e.ty))) g_absent c)) (suits_nothing (ground_labels s (labels_in os) l))))),
)

-- the loop

next_take : (es : List LabelTy) (i : ℕ) (e : LabelTy) → i < length es → e ≡ get_or es i e → take (i + 1) es ≡ take i es ++ e ∷ []
next_take es i e lt at = take_more es i e lt ∙ ap (λ d. take i es ++ d ∷ []) (sym at)

pub divide_start : (old : Bindings) (es os : List LabelTy) → AreSplit old (take 0 es) os old []
divide_start old es os = record { asked = λ s. (λ h. (h, λ l. suits_nothing (ground_labels s (labels_in os) l)), λ h. h.0); more = (let le : next_of old ≤ next_of old = omega arith in le); others = λ s l. nothing (ground_labels s (labels_in os) l) }
  where
    nothing : (o : GroundField) → g_absent ≡ unless_free o g_absent
    nothing g_absent = refl
    nothing (g_is t) = refl

free_or : (o a f : GroundField) → unless_free o (or_field a f) ≡ or_field (unless_free o a) (unless_free o f)
free_or g_absent a f = refl
free_or (g_is t) a f = refl

free_nothing : (o : GroundField) → unless_free o g_absent ≡ g_absent
free_nothing g_absent = refl
free_nothing (g_is t) = refl

or_nothing : (a : GroundField) → or_field a g_absent ≡ a
or_nothing (g_is u) = refl
or_nothing g_absent = refl

others_more : (s : Solution) (os es : List LabelTy) (e : LabelTy) (l : Label)
    → unless_free (ground_labels s (labels_in os) l) (ground_labels s (labels_in (es ++ e ∷ [])) l)
    ≡ or_field (unless_free (ground_labels s (labels_in os) l) (ground_labels s (labels_in es) l)) (unless_free (ground_labels s (labels_in os) l) (field_by l e.label (ground s (term e.ty))))
others_more s os es e l = ap (unless_free (ground_labels s (labels_in os) l)) (entry_more s es e l) ∙ free_or (ground_labels s (labels_in os) l) (ground_labels s (labels_in es) l) (field_by l e.label (ground s (term e.ty)))

module _ (old asked new : Bindings) (es os ns : List LabelTy) (i : ℕ) (e : LabelTy) (lt : i < length es) (at : e ≡ get_or es i e) (d : differ (entry_names es) ≡ true) (before : AreSplit old (take i es) os asked ns) where
  off : listed e.label (entry_names (take i es)) ≡ false
  off = new_entry es i e d lt at

  -- an argument that may be left out
  pub divide_free : (o : LabelTy) → entry_of e.label os ≡ Some o → ((s : Solution) → Solves s new ↔ (Solves s asked × (ground s (term e.ty) ≡ ground s (term o.ty)))) → next_of asked ≤ next_of new
      → AreSplit old (take (i + 1) es) os new ns
  divide_free o is one le = record {
    asked = λ s. (
      λ h. (let a : Solves s asked × (ground s (term e.ty) ≡ ground s (term o.ty)) = (one s).0 h in
          let b : Solves s old × AllSuit s os (take i es) = (before.asked s).0 a.0 in
          (b.0, subst (AllSuit s os) (sym (next_take es i e lt at)) ((suits_more s os (take i es) e off).1 (b.1, subst (λ f. Suits f (g_is (ground s (term e.ty)))) (sym (there s)) (inr (ap g_is a.1)))))),
      λ h. (let b : AllSuit s os (take i es) × Suits (ground_labels s (labels_in os) e.label) (g_is (ground s (term e.ty))) = (suits_more s os (take i es) e off).0 (subst (AllSuit s os) (next_take es i e lt at) h.1) in
          (one s).1 ((before.asked s).1 (h.0, b.0), suits_same (ground s (term o.ty)) (ground s (term e.ty)) (subst (λ f. Suits f (g_is (ground s (term e.ty)))) (there s) b.1))),
    );
    more = (let le1 : next_of old ≤ next_of asked = before.more in omega arith);
    others = others;
  }
    where
      there : (s : Solution) → ground_labels s (labels_in os) e.label ≡ g_is (ground s (term o.ty))
      there s = entry_field s os e.label ∙ ap (field_in s) is

      hidden : (s : Solution) (l : Label) → unless_free (ground_labels s (labels_in os) l) (field_by l e.label (ground s (term e.ty))) ≡ g_absent
      hidden s l =
          by_cases (same_text l e.label)
          (λ c. ap (λ f. unless_free f (field_by l e.label (ground s (term e.ty)))) (ap (ground_labels s (labels_in os)) (same_is l e.label c) ∙ there s))
          (λ c. ap (unless_free (ground_labels s (labels_in os) l)) (passed (same_text l e.label) (g_is (ground s (term e.ty))) g_absent c) ∙ free_nothing (ground_labels s (labels_in os) l))

      others : (s : Solution) (l : Label) → ground_labels s (labels_in ns) l ≡ unless_free (ground_labels s (labels_in os) l) (ground_labels s (labels_in (take (i + 1) es)) l)
      others s l =
          before.others s l ∙ sym (or_nothing (unless_free (ground_labels s (labels_in os) l) (ground_labels s (labels_in (take i es)) l)))
          ∙ ap (or_field (unless_free (ground_labels s (labels_in os) l) (ground_labels s (labels_in (take i es)) l))) (sym (hidden s l)) ∙ sym (others_more s os (take i es) e l)
          ∙ ap (λ xs. unless_free (ground_labels s (labels_in os) l) (ground_labels s (labels_in xs) l)) (sym (next_take es i e lt at))

  -- one that may not
  pub divide_due : (more : List LabelTy) (r : LabelTy) → entry_of e.label os ≡ None → more ≡ ns ++ r ∷ [] → r.label ≡ e.label → r.ty ≡ e.ty → new ≡ asked → AreSplit old (take (i + 1) es) os new more
  divide_due more r is pushed label type same = record {
    asked = λ s. (
      λ h. (let b : Solves s old × AllSuit s os (take i es) = (before.asked s).0 (subst (Solves s) same h) in
          (b.0, subst (AllSuit s os) (sym (next_take es i e lt at)) ((suits_more s os (take i es) e off).1 (b.1, subst (λ f. Suits f (g_is (ground s (term e.ty)))) (sym (there s)) tt)))),
      λ h. subst (Solves s) (sym same) ((before.asked s).1 (h.0, ((suits_more s os (take i es) e off).0 (subst (AllSuit s os) (next_take es i e lt at) h.1)).0)),
    );
    more = (let le1 : next_of old ≤ next_of asked = before.more in let n : next_of new ≡ next_of asked = ap next_of same in omega arith);
    others = others;
  }
    where
      there : (s : Solution) → ground_labels s (labels_in os) e.label ≡ g_absent
      there s = entry_field s os e.label ∙ ap (field_in s) is

      shown : (s : Solution) (l : Label) → unless_free (ground_labels s (labels_in os) l) (field_by l e.label (ground s (term e.ty))) ≡ field_by l e.label (ground s (term e.ty))
      shown s l =
          by_cases (same_text l e.label)
          (λ c. ap (λ f. unless_free f (field_by l e.label (ground s (term e.ty)))) (ap (ground_labels s (labels_in os)) (same_is l e.label c) ∙ there s))
          (λ c. (λ j. unless_free (ground_labels s (labels_in os) l) (passed (same_text l e.label) (g_is (ground s (term e.ty))) g_absent c j)) ∙ free_nothing (ground_labels s (labels_in os) l)
          ∙ sym (passed (same_text l e.label) (g_is (ground s (term e.ty))) g_absent c))

      others : (s : Solution) (l : Label) → ground_labels s (labels_in more) l ≡ unless_free (ground_labels s (labels_in os) l) (ground_labels s (labels_in (take (i + 1) es)) l)
      others s l =
          ap (λ xs. ground_labels s (labels_in xs) l) pushed ∙ entry_more s ns r l ∙ (λ j. or_field (before.others s l j) (field_by l (label j) (ground s (term (type j)))))
          ∙ ap (or_field (unless_free (ground_labels s (labels_in os) l) (ground_labels s (labels_in (take i es)) l))) (sym (shown s l)) ∙ sym (others_more s os (take i es) e l)
          ∙ ap (λ xs. unless_free (ground_labels s (labels_in os) l) (ground_labels s (labels_in xs) l)) (sym (next_take es i e lt at))

pub divide_all : (old new : Bindings) (es os ns : List LabelTy) (i : ℕ) → length es ≤ i → AreSplit old (take i es) os new ns → AreSplit old es os new ns
divide_all old new es os ns i le h = subst (λ xs. AreSplit old xs os new ns) (take_all es i le) h

-- the entries with other labels

abbrev pub WithoutSame : Label → List LabelTy → List LabelTy → Type 0
WithoutSame x es rs = (s : Solution) (l : Label) → ground_labels s (labels_in rs) l ≡ take_out x (ground_labels s (labels_in es)) l

out_or : (c : Bool) (a f : GroundField) → (if c then g_absent else or_field a f) ≡ or_field (if c then g_absent else a) (if c then g_absent else f)
out_or true a f = refl
out_or false a f = refl

pub without_more : (x : Label) (es rs more : List LabelTy) (i : ℕ) (e r : LabelTy) → i < length es → e ≡ get_or es i e → same_text x e.label ≡ false → more ≡ rs ++ r ∷ [] → r.label ≡ e.label → r.ty ≡ e.ty
    → WithoutSame x (take i es) rs → WithoutSame x (take (i + 1) es) more
without_more x es rs more i e r lt at other pushed label type before s l =
    ap (λ xs. ground_labels s (labels_in xs) l) pushed ∙ entry_more s rs r l ∙ (λ j. or_field (before s l j) (field_by l (label j) (ground s (term (type j)))))
    ∙ ap (or_field (take_out x (ground_labels s (labels_in (take i es))) l)) (sym kept) ∙ sym (out_or (same_text l x) (ground_labels s (labels_in (take i es)) l) (field_by l e.label (ground s (term e.ty))))
    ∙ ap (λ f. if same_text l x then g_absent else f) (sym (entry_more s (take i es) e l)) ∙ ap (λ xs. take_out x (ground_labels s (labels_in xs)) l) (sym (next_take es i e lt at))
  where
    kept : (if same_text l x then g_absent else field_by l e.label (ground s (term e.ty))) ≡ field_by l e.label (ground s (term e.ty))
    kept =
        by_cases (same_text l x)
        (λ c. chosen (same_text l x) g_absent (field_by l e.label (ground s (term e.ty))) c
        ∙ sym (passed (same_text l e.label) (g_is (ground s (term e.ty))) g_absent (ap (λ y. same_text y e.label) (same_is l x c) ∙ other)))
        (λ c. passed (same_text l x) g_absent (field_by l e.label (ground s (term e.ty))) c)

pub without_same : (x : Label) (es rs : List LabelTy) (i : ℕ) (e : LabelTy) → i < length es → e ≡ get_or es i e → same_text x e.label ≡ true → WithoutSame x (take i es) rs → WithoutSame x (take (i + 1) es) rs
without_same x es rs i e lt at same before s l =
    before s l ∙ sym (or_nothing (take_out x (ground_labels s (labels_in (take i es))) l)) ∙ ap (or_field (take_out x (ground_labels s (labels_in (take i es))) l)) (sym gone)
    ∙ sym (out_or (same_text l x) (ground_labels s (labels_in (take i es)) l) (field_by l e.label (ground s (term e.ty))))
    ∙ ap (λ f. if same_text l x then g_absent else f) (sym (entry_more s (take i es) e l)) ∙ ap (λ xs. take_out x (ground_labels s (labels_in xs)) l) (sym (next_take es i e lt at))
  where
    gone : (if same_text l x then g_absent else field_by l e.label (ground s (term e.ty))) ≡ g_absent
    gone =
        by_cases (same_text l x)
        (λ c. chosen (same_text l x) g_absent (field_by l e.label (ground s (term e.ty))) c)
        (λ c. passed (same_text l x) g_absent (field_by l e.label (ground s (term e.ty))) c ∙ passed (same_text l e.label) (g_is (ground s (term e.ty))) g_absent (ap (same_text l) (sym (same_is x e.label same)) ∙ c))

pub without_all : (x : Label) (es rs : List LabelTy) (i : ℕ) → length es ≤ i → WithoutSame x (take i es) rs → WithoutSame x es rs
without_all x es rs i le h = subst (λ xs. WithoutSame x xs rs) (take_all es i le) h

-- what a test tells

pub is_not : (c : Bool) → not c ≡ true → c ≡ false
is_not true e = absurd (true≢false (sym e))
is_not false e = refl

pub is_so : (c : Bool) → not c ≡ false → c ≡ true
is_so true e = refl
is_so false e = absurd (true≢false e)

pub at_most : (n m k : ℕ) → m ≡ max n k → n ≤ m
at_most n m k e = omega arith
