-- Calls of functions of rows on rows that fit are safe.
use Rattle.std.proofs.Common.{◌≡◌, refl, sym, ap, subst, ◌∙◌, Bool, true, false, ◌||◌, List, [], ◌∷◌, ℕ, pos, Some, None}
use Rattle.std.specs.Prelude.{if◌then◌else◌, codes, IsTrue}
use Rattle.std.specs.Cmp.Lexicographic.{same_text as equal_text}
use mathlib.Core.Bool.{true≢false, false≢true}
use Rattle.fx_base.specs.Text.{same_text}
use Rattle.fx_value.specs.declared.answer.Answer.{Answer}
use Rattle.fx_value.specs.declared.answer.Answer.TheVariants.{Cell, Line as RowLine}
use Rattle.fx_value.specs.declared.scalar.Kind.TheVariants as kind
use Rattle.fx_types.specs.Ground.{Ground, GroundRow, g_bool, g_fun, g_rec, g_absent, g_is, is_plain, listed}
use Rattle.fx_types.specs.Term.{Label}
use Rattle.fx_group.specs.Answer.{line_of, tested, truth_of, turned}
use Rattle.fx_schemes.specs.Builtins.{differ}
use Rattle.fx_schemes.specs.Line.{of_row, parameters}
use Rattle.fx_schemes.specs.Signature.{is_present, required_of}
use Rattle.fx_schemes.specs.declared.list.Builtin.{Builtin}
use Rattle.fx_schemes.specs.declared.list.Builtin.TheVariants as b
use Rattle.fx_ast.specs.Tree.{Params, no_params, more_params, required, by_pipe, by_value}
use Rattle.fx_meaning.specs.declared.native.Native.{Native}
use Rattle.fx_meaning.specs.Ends.{pure}
use Rattle.fx_meaning.specs.Meaning.{Tests, nested}
use Rattle.fx_meaning.specs.Native.{native_builtin}
use Rattle.fx_meaning.specs.Rows.{Row, answer_of, arguments, called_with, due, nowhere, record_of, row_called, row_from, row_meaning}
use Rattle.fx_meaning.specs.Value.{Val, cell, span, pattern, array, rec, closure, native, in_package, stream, shown, no_slots, more_slots, look}
use Rattle.fx_infer.specs.Parameters.{field_if, first, input_of, is_required, param_names, piped, type_of}
use Rattle.fx_build.specs.Fit.{fits}
use Rattle.fx_build.specs.Rows.{RowFits}
use Rattle.fx_build.specs.Safe.{IsSafe}
use Rattle.fx_build.proofs.Callable.{function_applied, nested_safe}
use Rattle.fx_build.proofs.KindLaws.{of_cell, of_flag, of_record}
use Rattle.fx_build.proofs.NativeCalls.{natives_run}
use Rattle.fx_build.proofs.NativeLaws.{labels}
use Rattle.fx_build.proofs.ParamLaws.{Suits}
use Rattle.fx_build.proofs.RowLaws.{no_columns, record_fits, row_safe}
use Rattle.fx_build.proofs.SafeLaws.{safe_cut, safe_then}
use Rattle.fx_plan.proofs.SlotLaws.{same_itself}

-- ---- the parameter that gets the row

abbrev r_label : Label
r_label = codes "r"

pub no_pipes : (xs : List Label) (P : Label → Ground) → input_of (first xs) P ≡ g_absent → xs ≡ []
no_pipes [] P e = refl
no_pipes (x ∷ xs) P e = absurd (clash (P x) e)
  where
    clash : (t : Ground) → g_is t ≡ g_absent → ⊥
    clash t e = cc

pub due_listed : (ps : Params) (l : Label) → piped ps ≡ [] → listed l (due ps) ≡ is_required l ps
due_listed no_params l e = refl
due_listed (more_params x required ps) l e = step (same_text l x) (due_listed ps l e)
  where
    step : (c : Bool) → listed l (due ps) ≡ is_required l ps → (if c then true else listed l (due ps)) ≡ (c || is_required l ps)
    step true e = refl
    step false e = e
due_listed (more_params x by_pipe ps) l e = absurd (let clash : x ∷ piped ps ≡ [] = e in cc)
due_listed (more_params x (by_value d) ps) l e = due_listed ps l e

differ_step : (x : Label) (xs ys : List Label) → ((l : Label) → listed l xs ≡ true → listed l ys ≡ true) → (differ ys ≡ true → differ xs ≡ true) → differ (x ∷ ys) ≡ true → differ (x ∷ xs) ≡ true
differ_step x xs ys within rest h = at (listed x xs) (listed x ys) (within x) h
  where
    at : (c d : Bool) → (c ≡ true → d ≡ true) → (if d then false else differ ys) ≡ true → (if c then false else differ xs) ≡ true
    at c true h k = absurd (false≢true k)
    at true false h k = absurd (false≢true (h refl))
    at false false h k = rest k

due_within : (ps : Params) (l : Label) → listed l (due ps) ≡ true → listed l (param_names ps) ≡ true
due_within no_params l h = h
due_within (more_params x required ps) l h = step (same_text l x) (due_within ps l) h
  where
    step : (c : Bool) → (listed l (due ps) ≡ true → listed l (param_names ps) ≡ true) → (if c then true else listed l (due ps)) ≡ true → (if c then true else listed l (param_names ps)) ≡ true
    step true f h = refl
    step false f h = f h
due_within (more_params x by_pipe ps) l h = step (same_text l x) (due_within ps l) h
  where
    step : (c : Bool) → (listed l (due ps) ≡ true → listed l (param_names ps) ≡ true) → (if c then true else listed l (due ps)) ≡ true → (if c then true else listed l (param_names ps)) ≡ true
    step true f h = refl
    step false f h = f h
due_within (more_params x (by_value d) ps) l h = later (same_text l x) (due_within ps l h)
  where
    later : (c : Bool) → listed l (param_names ps) ≡ true → (if c then true else listed l (param_names ps)) ≡ true
    later true h = refl
    later false h = h

differ_rest : (x : Label) (xs : List Label) → differ (x ∷ xs) ≡ true → differ xs ≡ true
differ_rest x xs h = at (listed x xs) h
  where
    at : (c : Bool) → (if c then false else differ xs) ≡ true → differ xs ≡ true
    at true k = absurd (false≢true k)
    at false k = k

pub due_differ : (ps : Params) → differ (param_names ps) ≡ true → differ (due ps) ≡ true
due_differ no_params h = refl
due_differ (more_params x required ps) h = differ_step x (due ps) (param_names ps) (due_within ps) (due_differ ps) h
due_differ (more_params x by_pipe ps) h = differ_step x (due ps) (param_names ps) (due_within ps) (due_differ ps) h
due_differ (more_params x (by_value d) ps) h = due_differ ps (differ_rest x (param_names ps) h)

-- labels without repeats that are just the one
pub one_label : (xs : List Label) (y : Label) → differ xs ≡ true → ((l : Label) → listed l xs ≡ same_text l y) → xs ≡ y ∷ []
one_label [] y h same = absurd (false≢true (same y ∙ same_itself y))
one_label (x ∷ []) y h same = ap (λ z. z ∷ []) (equal_text x y (sym (sym (same x) ∙ first_listed (same_text x x) false (same_itself x))))
  where
    first_listed : (c d : Bool) → c ≡ true → (if c then true else d) ≡ true
    first_listed true d e = refl
    first_listed false d e = absurd (false≢true e)
one_label (x ∷ z ∷ xs) y h same =
    let here = equal_text x y (sym (sym (same x) ∙ there (same_text x x) (listed x (z ∷ xs)) (same_itself x))) in
    let next = equal_text z y (sym (sym (same z) ∙ behind (same_text z x) (listed z (z ∷ xs)) (there (same_text z z) (listed z xs) (same_itself z)))) in
    absurd (twice (listed x (z ∷ xs)) (there (same_text x z) (listed x xs) (subst (λ w. same_text x w ≡ true) (here ∙ sym next) (same_itself x))) h)
  where
    there : (c d : Bool) → c ≡ true → (if c then true else d) ≡ true
    there true d e = refl
    there false d e = absurd (false≢true e)

    behind : (c d : Bool) → d ≡ true → (if c then true else d) ≡ true
    behind true d e = refl
    behind false d e = e

    twice : (c : Bool) → c ≡ true → (if c then false else differ (z ∷ xs)) ≡ true → ⊥
    twice true e k = false≢true k
    twice false e k = false≢true e

-- a literal of the type of a function of one row gets the row under that label
due_is : (ps : Params) (P : Label → Ground) (u t g : Ground) → differ (param_names ps) ≡ true → type_of ps P u ≡ g_fun (parameters ((r_label, g) ∷ [])) g_absent t → due ps ≡ r_label ∷ []
due_is ps P u t g once type =
    let same_needs : (λ l. field_if (is_required l ps) (P l)) ≡ parameters ((r_label, g) ∷ []) = cc in
    let same_input : input_of (first (piped ps)) P ≡ g_absent = cc in
    one_label (due ps) r_label (due_differ ps once)
    (λ l. due_listed ps l (no_pipes (piped ps) P same_input) ∙ sym (present_if (is_required l ps) (P l)) ∙ ap (λ q. is_present (q l)) same_needs ∙ present_one (same_text l r_label))
  where
    present_if : (c : Bool) (t : Ground) → is_present (field_if c t) ≡ c
    present_if true t = refl
    present_if false t = refl

    present_one : (c : Bool) → is_present (if c then g_is g else g_absent) ≡ c
    present_one true = refl
    present_one false = refl

-- no built-in is a function of one row

no_row : (x : Builtin) → listed r_label (required_of x) ≡ false
no_row b.From = refl
no_row _ = refl

native_never : (g : Native) (u t : Ground) → fits (native g) (g_fun (parameters ((r_label, u) ∷ [])) g_absent t) → ⊥
native_never g u t h =
    let needs = parameters ((r_label, u) ∷ []) in
    let k = labels (native_builtin g) [] h.1.0 needs g_absent t h.1.1 h.1.2 in
    let made : g_fun k.needs k.input k.gives ≡ g_fun needs g_absent t = sym k.type ∙ h.1.2 in
    let same : k.needs ≡ needs = cc in
    true≢false (sym (ap (λ q. is_present (q r_label)) same) ∙ k.required r_label ∙ no_row (native_builtin g))

-- ---- calls

module _ (test : Tests) (limit : ℕ) (r : GroundRow) (t : Ground) (row : Row) (fit : RowFits r row) where
  row_suits : (l : Label) → Suits (look l (more_slots r_label (record_of row) no_slots)) (parameters ((r_label, g_rec r) ∷ []) l) g_absent
  row_suits l = at (same_text l r_label)
    where
      at : (c : Bool) → Suits (if c then Some (record_of row) else None) (if c then g_is (g_rec r) else g_absent) g_absent
      at true = record_fits r row fit
      at false = tt

  called_safe : (v : Val) → fits v (of_row r t) → IsSafe (λ y. fits y t) (called_with (nested test limit) v (Some (more_slots r_label (record_of row) no_slots)))
  called_safe v h =
      function_applied (nested test limit) (nested_safe test natives_run limit) (natives_run (nested test limit)) nowhere (pos 0) refl v (parameters ((r_label, g_rec r) ∷ [])) t
      (more_slots r_label (record_of row) no_slots) h row_suits

  module _ (Q : Answer → Type 0) (answers : (v : Val) → fits v t → IsSafe Q (answer_of v)) where
    pub row_meaning_safe : (v : Val) → fits v (of_row r t) → IsSafe Q (row_meaning test v (row ∷ []) limit)
    row_meaning_safe (closure ps lets e captured setting) h =
        let k = h.1.1 in
        let v = closure ps lets e captured setting in
        safe_cut Q limit (row_called (nested test limit) v ps (row ∷ []))
        (safe_then (λ y. fits y t) Q (called_with (nested test limit) v (arguments (due ps) (row ∷ []))) answer_of
        (subst (λ xs. IsSafe (λ y. fits y t) (called_with (nested test limit) v (arguments xs (row ∷ [])))) (sym (due_is ps k.0 k.1 t (g_rec r) k.3.0.0 k.2)) (called_safe v h))
        answers)
    row_meaning_safe (native g) h = absurd (native_never g (g_rec r) t h)
    row_meaning_safe (cell a) h = absurd (false≢true h)
    row_meaning_safe (span d) h = absurd h
    row_meaning_safe (pattern n) h = absurd h
    row_meaning_safe (array vs) h = absurd h
    row_meaning_safe (rec fields) h = absurd h
    row_meaning_safe (in_package p) h = absurd h
    row_meaning_safe (stream c) h = absurd h
    row_meaning_safe (shown a p c) h = absurd h

-- ---- answers

pub truth_safe : (v : Val) → fits v g_bool → IsSafe (λ answer. IsSafe (λ wanted. Unit {0}) (truth_of answer)) (answer_of v)
truth_safe v h =
    of_cell kind.Bool v (λ y. IsSafe (λ answer. IsSafe (λ wanted. Unit {0}) (truth_of answer)) (answer_of y)) h
    (λ a is. of_flag a (λ c. IsSafe (λ wanted. Unit {0}) (truth_of (Cell c))) is tt (λ c. tt))

pub line_safe : (q : GroundRow) → ((l : Label) → IsTrue (is_plain (q l))) → (v : Val) → fits v (g_rec q) → IsSafe (λ answer. IsSafe (RowFits q) (line_of answer)) (answer_of v)
line_safe q plain v h =
    of_record q v (λ y. IsSafe (λ answer. IsSafe (RowFits q) (line_of answer)) (answer_of y)) h
    (λ fields fit. safe_then (RowFits q) (λ answer. IsSafe (RowFits q) (line_of answer)) (row_from no_columns fields) (λ row. pure (RowLine row)) (row_safe q plain fields fit) (λ row is. is))

pub tested_safe : (test : Tests) (limit : ℕ) (r : GroundRow) (f : Val) (row : Row) → fits f (of_row r g_bool) → RowFits r row → IsSafe (λ wanted. Unit {0}) (tested (row_meaning test f) limit row)
tested_safe test limit r f row h fit =
    safe_then (λ answer. IsSafe (λ wanted. Unit {0}) (truth_of answer)) (λ wanted. Unit {0}) (row_meaning test f (row ∷ []) limit) truth_of
    (row_meaning_safe test limit r g_bool row fit (λ answer. IsSafe (λ wanted. Unit {0}) (truth_of answer)) truth_safe f h) (λ answer is. is)

pub turned_safe : (test : Tests) (limit : ℕ) (r q : GroundRow) (f : Val) (row : Row) → ((l : Label) → IsTrue (is_plain (q l))) → fits f (of_row r (g_rec q)) → RowFits r row
    → IsSafe (RowFits q) (turned (row_meaning test f) limit row)
turned_safe test limit r q f row plain h fit =
    safe_then (λ answer. IsSafe (RowFits q) (line_of answer)) (RowFits q) (row_meaning test f (row ∷ []) limit) line_of
    (row_meaning_safe test limit r (g_rec q) row fit (λ answer. IsSafe (RowFits q) (line_of answer)) (line_safe q plain) f h) (λ answer is. is)
