-- Calls of functions of two rows on rows that fit are safe.
use Rattle.std.proofs.Common.{◌≡◌, refl, sym, ap, subst, ◌∙◌, inl, inr, ◌⊎◌, Bool, true, false, List, [], ◌∷◌, ℕ, pos, Some, None}
use Rattle.std.specs.Prelude.{if◌then◌else◌}
use Rattle.std.specs.Cmp.Lexicographic.{same_text as equal_text}
use mathlib.Core.Bool.{true≢false, false≢true}
use Rattle.fx_base.specs.Text.{same_text}
use Rattle.fx_value.specs.declared.answer.Answer.{Answer}
use Rattle.fx_types.proofs.Choices.{chosen}
use Rattle.fx_types.specs.Ground.{Ground, GroundRow, g_fun, g_rec, g_absent, g_is, listed}
use Rattle.fx_types.specs.Term.{Label}
use Rattle.fx_schemes.specs.Builtins.{differ}
use Rattle.fx_schemes.specs.Line.{parameters}
use Rattle.fx_schemes.specs.Signature.{is_present, required_of}
use Rattle.fx_schemes.specs.declared.list.Builtin.{Builtin}
use Rattle.fx_ast.specs.Tree.{Params}
use Rattle.fx_meaning.specs.declared.native.Native.{Native}
use Rattle.fx_meaning.specs.Meaning.{Tests, nested}
use Rattle.fx_meaning.specs.Native.{native_builtin}
use Rattle.fx_meaning.specs.Rows.{Row, answer_of, arguments, called_with, due, nowhere, pair_of, record_of, row_called, row_meaning}
use Rattle.fx_meaning.specs.Value.{Val, cell, span, pattern, array, rec, closure, native, in_package, stream, shown, Slots, look, or_else}
use Rattle.fx_infer.specs.Parameters.{field_if, first, input_of, is_required, param_names, piped, type_of}
use Rattle.fx_build.specs.Fit.{fits}
use Rattle.fx_build.specs.Rows.{RowFits}
use Rattle.fx_build.specs.Safe.{IsSafe}
use Rattle.fx_build.proofs.Callable.{function_applied, nested_safe}
use Rattle.fx_build.proofs.NativeCalls.{natives_run}
use Rattle.fx_build.proofs.NativeLaws.{labels}
use Rattle.fx_build.proofs.ParamLaws.{Suits}
use Rattle.fx_build.proofs.RowCalls.{due_differ, due_listed, no_pipes, one_label}
use Rattle.fx_build.proofs.RowLaws.{record_fits}
use Rattle.fx_build.proofs.SafeLaws.{safe_cut, safe_then}
use Rattle.fx_plan.proofs.SlotLaws.{same_itself}

-- ---- two labels

not_listed : (x : Label) (xs : List Label) → differ (x ∷ xs) ≡ true → listed x xs ≡ false
not_listed x xs h = at (listed x xs) h
  where
    at : (c : Bool) → (if c then false else differ xs) ≡ true → c ≡ false
    at true k = absurd (false≢true k)
    at false k = refl

differ_rest : (x : Label) (xs : List Label) → differ (x ∷ xs) ≡ true → differ xs ≡ true
differ_rest x xs h = at (listed x xs) h
  where
    at : (c : Bool) → (if c then false else differ xs) ≡ true → differ xs ≡ true
    at true k = absurd (false≢true k)
    at false k = k

-- behind the one there is just the other
rest_is : (x y : Label) (xs : List Label) → same_text x y ≡ false → differ (x ∷ xs) ≡ true
    → ((l : Label) → (if same_text l x then true else listed l xs) ≡ (if same_text l x then true else same_text l y)) → xs ≡ y ∷ []
rest_is x y xs apart h same = one_label xs y (differ_rest x xs h) (λ l. at l (same_text l x) refl (same l))
  where
    at : (l : Label) (c : Bool) → c ≡ same_text l x → (if c then true else listed l xs) ≡ (if c then true else same_text l y) → listed l xs ≡ same_text l y
    at l true e k =
        let here = equal_text l x e in
        ap (λ z. listed z xs) here ∙ not_listed x xs h ∙ sym apart ∙ sym (ap (λ z. same_text z y) here)
    at l false e k = k

swapped : (c d : Bool) → (if c then true else (if d then true else false)) ≡ (if d then true else c)
swapped true true = refl
swapped true false = refl
swapped false true = refl
swapped false false = refl

straight : (c d : Bool) → (if c then true else (if d then true else false)) ≡ (if c then true else d)
straight true d = refl
straight false true = refl
straight false false = refl

two_labels : (xs : List Label) (a b : Label) → same_text a b ≡ false → same_text b a ≡ false → differ xs ≡ true → ((l : Label) → listed l xs ≡ listed l (a ∷ b ∷ []))
    → (xs ≡ a ∷ b ∷ []) ⊎ (xs ≡ b ∷ a ∷ [])
two_labels [] a b apart other h same = absurd (false≢true (same a ∙ chosen (same_text a a) true (listed a (b ∷ [])) (same_itself a)))
two_labels (x ∷ xs) a b apart other h same = at (same_text x a) (same_text x b) refl refl (sym (same x) ∙ chosen (same_text x x) true (listed x xs) (same_itself x))
  where
    at : (c d : Bool) → c ≡ same_text x a → d ≡ same_text x b → (if c then true else (if d then true else false)) ≡ true → (x ∷ xs ≡ a ∷ b ∷ []) ⊎ (x ∷ xs ≡ b ∷ a ∷ [])
    at true d e k is =
        let here = equal_text x a e in
        inl ((λ i. here i ∷ xs) ∙ ap (λ ys. a ∷ ys) (rest_is a b xs apart (subst (λ z. differ (z ∷ xs) ≡ true) here h)
        (λ l. ap (λ z. if same_text l z then true else listed l xs) (sym here) ∙ same l ∙ straight (same_text l a) (same_text l b))))
    at false true e k is =
        let here = equal_text x b k in
        inr ((λ i. here i ∷ xs) ∙ ap (λ ys. b ∷ ys) (rest_is b a xs other (subst (λ z. differ (z ∷ xs) ≡ true) here h)
        (λ l. ap (λ z. if same_text l z then true else listed l xs) (sym here) ∙ same l ∙ swapped (same_text l a) (same_text l b))))
    at false false e k is = absurd (false≢true is)

-- ---- what the two rows are to the parameters

pub pair_suits : (x y : Label) (f s : GroundRow) (p q : Row) (needs : GroundRow) → same_text x y ≡ false → RowFits f p → RowFits s q → needs x ≡ g_is (g_rec f) → needs y ≡ g_is (g_rec s)
    → ((l : Label) → same_text l x ≡ false → same_text l y ≡ false → needs l ≡ g_absent) → (l : Label) → Suits (look l (pair_of x y p q)) (needs l) g_absent
pair_suits x y f s p q needs apart fit_p fit_q at_x at_y off l = at (same_text l x) (same_text l y) refl refl
  where
    at : (c d : Bool) → c ≡ same_text l x → d ≡ same_text l y
        → Suits (or_else (if d then Some (record_of q) else None) (if c then Some (record_of p) else None)) (needs l) g_absent
    at true true e k = absurd (true≢false (sym (subst (λ z. same_text z y ≡ true) (equal_text l x e) (sym k)) ∙ apart))
    at true false e k = subst (λ g. Suits (Some (record_of p)) g g_absent) (sym (ap needs (equal_text l x e) ∙ at_x)) (record_fits f p fit_p)
    at false true e k = subst (λ g. Suits (Some (record_of q)) g g_absent) (sym (ap needs (equal_text l y k) ∙ at_y)) (record_fits s q fit_q)
    at false false e k = subst (λ g. Suits None g g_absent) (sym (off l (sym e) (sym k))) tt

-- ---- calls

-- a function that takes two labels, which no built-in has, called with what suits both
module _ (test : Tests) (limit : ℕ) (a b : Label) (u v t : Ground) (apart : same_text a b ≡ false) (other : same_text b a ≡ false) (never : (x : Builtin) → listed a (required_of x) ≡ false)
    (rows : List Row) (slots : Slots) (straight_on : arguments (a ∷ b ∷ []) rows ≡ Some slots) (turned_round : arguments (b ∷ a ∷ []) rows ≡ Some slots)
    (suit : (l : Label) → Suits (look l slots) (parameters ((a, u) ∷ (b, v) ∷ []) l) g_absent) where
  abbrev Pair : Ground
  Pair = g_fun (parameters ((a, u) ∷ (b, v) ∷ [])) g_absent t

  due_pair : (ps : Params) (P : Label → Ground) (w : Ground) → differ (param_names ps) ≡ true → type_of ps P w ≡ Pair → (due ps ≡ a ∷ b ∷ []) ⊎ (due ps ≡ b ∷ a ∷ [])
  due_pair ps P w once type =
      let same_needs : (λ l. field_if (is_required l ps) (P l)) ≡ parameters ((a, u) ∷ (b, v) ∷ []) = cc in
      let same_input : input_of (first (piped ps)) P ≡ g_absent = cc in
      two_labels (due ps) a b apart other (due_differ ps once)
      (λ l. due_listed ps l (no_pipes (piped ps) P same_input) ∙ sym (present_if (is_required l ps) (P l)) ∙ ap (λ q. is_present (q l)) same_needs ∙ present_two (same_text l a) (same_text l b))
    where
      present_if : (c : Bool) (t : Ground) → is_present (field_if c t) ≡ c
      present_if true t = refl
      present_if false t = refl

      present_two : (c d : Bool) → is_present (if c then g_is u else (if d then g_is v else g_absent)) ≡ (if c then true else (if d then true else false))
      present_two true d = refl
      present_two false true = refl
      present_two false false = refl

  native_never : (g : Native) → fits (native g) Pair → ⊥
  native_never g h =
      let needs = parameters ((a, u) ∷ (b, v) ∷ []) in
      let k = labels (native_builtin g) [] h.1.0 needs g_absent t h.1.1 h.1.2 in
      let made : g_fun k.needs k.input k.gives ≡ g_fun needs g_absent t = sym k.type ∙ h.1.2 in
      let same : k.needs ≡ needs = cc in
      true≢false (sym (ap (λ q. is_present (q a)) same ∙ present (same_text a a) (same_itself a)) ∙ k.required a ∙ never (native_builtin g))
    where
      present : (c : Bool) → c ≡ true → is_present (if c then g_is u else (if same_text a b then g_is v else g_absent)) ≡ true
      present true e = refl
      present false e = absurd (false≢true e)

  called_safe : (f : Val) → fits f Pair → IsSafe (λ y. fits y t) (called_with (nested test limit) f (Some slots))
  called_safe f h =
      function_applied (nested test limit) (nested_safe test natives_run limit) (natives_run (nested test limit)) nowhere (pos 0) refl f (parameters ((a, u) ∷ (b, v) ∷ [])) t slots h suit

  module _ (Q : Answer → Type 0) (answers : (y : Val) → fits y t → IsSafe Q (answer_of y)) where
    pub pair_meaning_safe : (f : Val) → fits f Pair → IsSafe Q (row_meaning test f rows limit)
    pair_meaning_safe (closure ps lets e captured setting) h =
        let k = h.1.1 in
        let f = closure ps lets e captured setting in
        safe_cut Q limit (row_called (nested test limit) f ps rows)
        (safe_then (λ y. fits y t) Q (called_with (nested test limit) f (arguments (due ps) rows)) answer_of (either_way f h (due ps) (due_pair ps k.0 k.1 k.3.0.0 k.2)) answers)
      where
        either_way : (f : Val) → fits f Pair → (xs : List Label) → (xs ≡ a ∷ b ∷ []) ⊎ (xs ≡ b ∷ a ∷ []) → IsSafe (λ y. fits y t) (called_with (nested test limit) f (arguments xs rows))
        either_way f h xs (inl is) = subst (λ o. IsSafe (λ y. fits y t) (called_with (nested test limit) f o)) (sym (ap (λ ys. arguments ys rows) is ∙ straight_on)) (called_safe f h)
        either_way f h xs (inr is) = subst (λ o. IsSafe (λ y. fits y t) (called_with (nested test limit) f o)) (sym (ap (λ ys. arguments ys rows) is ∙ turned_round)) (called_safe f h)
    pair_meaning_safe (native g) h = absurd (native_never g h)
    pair_meaning_safe (cell a) h = absurd (false≢true h)
    pair_meaning_safe (span d) h = absurd h
    pair_meaning_safe (pattern n) h = absurd h
    pair_meaning_safe (array vs) h = absurd h
    pair_meaning_safe (rec fields) h = absurd h
    pair_meaning_safe (in_package p) h = absurd h
    pair_meaning_safe (stream c) h = absurd h
    pair_meaning_safe (shown a p c) h = absurd h
