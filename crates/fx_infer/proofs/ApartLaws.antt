-- Lines in which no label stands for two parts: those of built-ins, of values and of function literals.
use Rattle.std.proofs.Common.{◌≡◌, refl, sym, ap, subst, ◌∙◌, Bool, true, false, ◌||◌, List, [], ◌∷◌, ◌++◌, Option, None, Some, map}
use Rattle.std.specs.Prelude.{if◌then◌else◌}
use mathlib.Core.Bool.{true≢false}
use Rattle.fx_base.specs.Text.{same_text}
use Rattle.fx_types.specs.Ground.{Ground, GroundField, GroundRow, g_fun, g_absent, g_is, listed}
use Rattle.fx_types.specs.Term.{Label}
use Rattle.fx_types.proofs.Choices.{chosen, by_cases, neither, either_also}
use Rattle.fx_types.proofs.RowSums.{same_is, same_itself}
use Rattle.fx_schemes.specs.declared.list.Builtin.{Builtin}
use Rattle.fx_schemes.specs.Builtins.{IsLine, differ}
use Rattle.fx_schemes.specs.Given.{Given}
use Rattle.fx_schemes.specs.Line.{Line, value}
use Rattle.fx_schemes.specs.Signature.{Signature, signature_of, signature_or_nothing, with_pipe, is_present, HasSignature, IsPiped}
use Rattle.fx_schemes.proofs.SignatureLaws.{line_signature, labels_differ}
use Rattle.fx_ast.specs.Tree.{Params, no_params, more_params, Default, required, by_pipe, by_value}
use Rattle.fx_infer.specs.Calls.{NotBoth, IsPipeApart, IsApart}
use Rattle.fx_infer.specs.Parameters.{param_names, is_required, is_optional, piped, first, field_if, input_of, line_of}

-- lists in which each label stands once

once : (x : Label) (xs : List Label) → differ (x ∷ xs) ≡ true → (listed x xs ≡ false) × (differ xs ≡ true)
once x xs h = parts (listed x xs) (differ xs) h
  where
    parts : (a b : Bool) → (if a then false else b) ≡ true → (a ≡ false) × (b ≡ true)
    parts true b e = absurd (true≢false (sym e))
    parts false b e = (refl, e)

off_both : (l : Label) (xs ys : List Label) → listed l (xs ++ ys) ≡ false → (listed l xs ≡ false) × (listed l ys ≡ false)
off_both l [] ys h = (refl, h)
off_both l (x ∷ xs) ys h =
    let k : (same_text l x ≡ false) × (listed l (xs ++ ys) ≡ false) = neither (same_text l x) (listed l (xs ++ ys)) h in
    let r : (listed l xs ≡ false) × (listed l ys ≡ false) = off_both l xs ys k.1 in
    (none (same_text l x) (listed l xs) k.0 r.0, r.1)
  where
    none : (a b : Bool) → a ≡ false → b ≡ false → (if a then true else b) ≡ false
    none true b e f = absurd (true≢false e)
    none false b e f = f

differ_behind : (xs ys : List Label) → differ (xs ++ ys) ≡ true → differ ys ≡ true
differ_behind [] ys h = h
differ_behind (x ∷ xs) ys h = differ_behind xs ys (once x (xs ++ ys) h).1

in_one : (l : Label) (xs ys : List Label) → differ (xs ++ ys) ≡ true → listed l xs ≡ true → listed l ys ≡ false
in_one l [] ys h there = absurd (true≢false (sym there))
in_one l (x ∷ xs) ys h there =
    by_cases (same_text l x)
    (λ c. ap (λ y. listed y ys) (same_is l x c) ∙ (off_both x xs ys (once x (xs ++ ys) h).0).1)
    (λ c. in_one l xs ys (once x (xs ++ ys) h).1 (sym (ap (λ b. if b then true else listed l xs) c) ∙ there))

-- fields

not_both : (n o : GroundField) → (is_present n ≡ true → is_present o ≡ false) → NotBoth n o
not_both (g_is t) (g_is u) h = absurd (true≢false (h refl))
not_both (g_is t) g_absent h = tt
not_both g_absent (g_is u) h = tt
not_both g_absent g_absent h = tt

absent_there : (n : GroundField) → is_present n ≡ false → n ≡ g_absent
absent_there g_absent h = refl
absent_there (g_is t) h = absurd (true≢false h)

-- what has a signature

abbrev labels_by : Signature → List Label
labels_by s = with_pipe s.pipe (s.required ++ (s.optional ++ map (λ w. w.label) s.words))

after_pipe : (p : Option Label) (xs : List Label) → differ (with_pipe p xs) ≡ true → differ xs ≡ true
after_pipe None xs h = h
after_pipe (Some x) xs h = (once x xs h).1

signature_apart : (L : Line) (o : Option Signature) → differ (labels_by (signature_or_nothing o)) ≡ true → HasSignature o L → IsApart L
signature_apart L None h sig = λ needs input t e. absurd (subst is_none_function e sig.1)
  where
    is_none_function : Ground → Type 0
    is_none_function (g_fun needs input t) = ⊥
    is_none_function _ = Unit {0}
signature_apart L (Some s) h sig = λ needs input t e.
    (let made : g_fun sig.needs sig.input sig.gives ≡ g_fun needs input t = sym sig.type ∙ e in
    let same_needs : sig.needs ≡ needs = cc in
    let same_input : sig.input ≡ input = cc in
    let rest : differ (s.required ++ (s.optional ++ map (λ w. w.label) s.words)) ≡ true = after_pipe s.pipe _ h in (
      λ l. not_both (needs l) (L.optional l)
          (λ there. sig.optional l ∙ (off_both l s.optional (map (λ w. w.label) s.words) (in_one l s.required (s.optional ++ map (λ w. w.label) s.words) rest (sym (sig.required l) ∙ ap (λ r. is_present (r l)) same_needs ∙ there))).0),
      subst (λ p. IsPipeApart p input needs L.optional) (sym sig.pipe_label) (by_label input s.pipe h (subst (IsPiped s.pipe) same_input sig.piped) needs same_needs),
    ))
  where
    by_label : (input : GroundField) (p : Option Label) → differ (with_pipe p (s.required ++ (s.optional ++ map (λ w. w.label) s.words))) ≡ true → IsPiped p input → (needs : GroundRow) → sig.needs ≡ needs → IsPipeApart p input needs L.optional
    by_label input None d is needs same = tt
    by_label input (Some x) d is needs same =
        let off : listed x (s.required ++ (s.optional ++ map (λ w. w.label) s.words)) ≡ false = (once x (s.required ++ (s.optional ++ map (λ w. w.label) s.words)) d).0 in
        let k : (listed x s.required ≡ false) × (listed x (s.optional ++ map (λ w. w.label) s.words) ≡ false) = off_both x s.required (s.optional ++ map (λ w. w.label) s.words) off in (
          is,
          absent_there (needs x) (ap (λ r. is_present (r x)) (sym same) ∙ sig.required x ∙ k.0),
          absent_there (L.optional x) (sig.optional x ∙ (off_both x s.optional (map (λ w. w.label) s.words) k.1).0),
        )

pub builtin_apart : (x : Builtin) (w : Given) (L : Line) → IsLine x w L → IsApart L
builtin_apart x w L h = signature_apart L (signature_of x) (labels_differ x) (line_signature x w L h)

pub value_apart : (u : Ground) → IsApart (value u)
value_apart u = λ needs input t e. (λ l. nothing (needs l), tt)
  where
    nothing : (n : GroundField) → NotBoth n g_absent
    nothing (g_is t) = tt
    nothing g_absent = tt

-- function literals

none_of : (l : Label) (ps : Params) → listed l (param_names ps) ≡ false → (is_required l ps ≡ false) × (is_optional l ps ≡ false)
none_of l no_params h = (refl, refl)
none_of l (more_params x d ps) h =
    let k : (same_text l x ≡ false) × (listed l (param_names ps) ≡ false) = neither (same_text l x) (listed l (param_names ps)) h in
    one d (none_of l ps k.1) k.0
  where
    none : (a b : Bool) → a ≡ false → b ≡ false → (a || b) ≡ false
    none true b e f = absurd (true≢false e)
    none false b e f = f

    one : (d : Default) → (is_required l ps ≡ false) × (is_optional l ps ≡ false) → same_text l x ≡ false → (is_required l (more_params x d ps) ≡ false) × (is_optional l (more_params x d ps) ≡ false)
    one required r e = (none (same_text l x) (is_required l ps) e r.0, r.1)
    one by_pipe r e = r
    one (by_value v) r e = (r.0, none (same_text l x) (is_optional l ps) e r.1)

required_alone : (l : Label) (ps : Params) → differ (param_names ps) ≡ true → is_required l ps ≡ true → is_optional l ps ≡ false
required_alone l no_params h there = refl
required_alone l (more_params x required ps) h there =
    by_cases (same_text l x)
    (λ c. (none_of l ps (ap (λ y. listed y (param_names ps)) (same_is l x c) ∙ (once x (param_names ps) h).0)).1)
    (λ c. required_alone l ps (once x (param_names ps) h).1 (sym (ap (λ b. b || is_required l ps) c) ∙ there))
required_alone l (more_params x by_pipe ps) h there = required_alone l ps (once x (param_names ps) h).1 there
required_alone l (more_params x (by_value v) ps) h there =
    by_cases (same_text l x)
    (λ c. absurd (true≢false (sym there ∙ (none_of l ps (ap (λ y. listed y (param_names ps)) (same_is l x c) ∙ (once x (param_names ps) h).0)).0)))
    (λ c. ap (λ b. b || is_optional l ps) c ∙ required_alone l ps (once x (param_names ps) h).1 there)

piped_there : (x : Label) (ps : Params) → first (piped ps) ≡ Some x → listed x (param_names ps) ≡ true
piped_there x no_params h = absurd cc
piped_there x (more_params y required ps) h = either_also (same_text x y) (listed x (param_names ps)) (piped_there x ps h)
piped_there x (more_params y by_pipe ps) h = let same : y ≡ x = cc in chosen (same_text x y) true (listed x (param_names ps)) (ap (same_text x) same ∙ same_itself x)
piped_there x (more_params y (by_value e) ps) h = either_also (same_text x y) (listed x (param_names ps)) (piped_there x ps h)

other_than : (x y : Label) (xs : List Label) → listed x xs ≡ true → listed y xs ≡ false → same_text x y ≡ false
other_than x y xs h k = by_cases (same_text x y) (λ c. absurd (true≢false (sym h ∙ ap (λ z. listed z xs) (same_is x y c) ∙ k))) (λ c. c)

piped_alone : (x : Label) (ps : Params) → differ (param_names ps) ≡ true → first (piped ps) ≡ Some x → (is_required x ps ≡ false) × (is_optional x ps ≡ false)
piped_alone x no_params h is = absurd cc
piped_alone x (more_params y required ps) h is =
    let k : (listed y (param_names ps) ≡ false) × (differ (param_names ps) ≡ true) = once y (param_names ps) h in
    let r : (is_required x ps ≡ false) × (is_optional x ps ≡ false) = piped_alone x ps k.1 is in
    (ap (λ b. b || is_required x ps) (other_than x y (param_names ps) (piped_there x ps is) k.0) ∙ r.0, r.1)
piped_alone x (more_params y by_pipe ps) h is =
    let same : y ≡ x = cc in
    none_of x ps (subst (λ z. listed z (param_names ps) ≡ false) same (once y (param_names ps) h).0)
piped_alone x (more_params y (by_value e) ps) h is =
    let k : (listed y (param_names ps) ≡ false) × (differ (param_names ps) ≡ true) = once y (param_names ps) h in
    let r : (is_required x ps ≡ false) × (is_optional x ps ≡ false) = piped_alone x ps k.1 is in
    (r.0, ap (λ b. b || is_optional x ps) (other_than x y (param_names ps) (piped_there x ps is) k.0) ∙ r.1)

present_if : (c : Bool) (t : Ground) → is_present (field_if c t) ≡ c
present_if true t = refl
present_if false t = refl

pub literal_apart : (ps : Params) (P : Label → Ground) (t : Ground) → differ (param_names ps) ≡ true → IsApart (line_of ps P t)
literal_apart ps P t h = λ needs input u e.
    (let made : g_fun (λ l. field_if (is_required l ps) (P l)) (input_of (first (piped ps)) P) t ≡ g_fun needs input u = e in
    let same_needs : (λ l. field_if (is_required l ps) (P l)) ≡ needs = cc in
    let same_input : input_of (first (piped ps)) P ≡ input = cc in (
      λ l. not_both (needs l) (field_if (is_optional l ps) (P l))
          (λ there. present_if (is_optional l ps) (P l) ∙ required_alone l ps h (sym (present_if (is_required l ps) (P l)) ∙ ap (λ r. is_present (r l)) same_needs ∙ there)),
      by_label (first (piped ps)) refl input same_input needs same_needs,
    ))
  where
    by_label : (o : Option Label) → first (piped ps) ≡ o → (input : GroundField) → input_of o P ≡ input → (needs : GroundRow) → (λ l. field_if (is_required l ps) (P l)) ≡ needs
        → IsPipeApart o input needs (λ l. field_if (is_optional l ps) (P l))
    by_label None is input same needs rows = tt
    by_label (Some x) is input same needs rows =
        let k : (is_required x ps ≡ false) × (is_optional x ps ≡ false) = piped_alone x ps h is in (
          (P x, sym same),
          sym (ap (λ r. r x) rows) ∙ ap (λ c. field_if c (P x)) k.0,
          ap (λ c. field_if c (P x)) k.1,
        )
