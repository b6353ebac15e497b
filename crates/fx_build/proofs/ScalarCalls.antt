-- Calls of the functions of `strings` and `date` on scalars are safe.
use Rattle.std.proofs.Common.{◌≡◌, refl, subst, sym, true, ◌++◌, List, [], ◌∷◌, Some}
use Rattle.std.specs.Prelude.{if◌then◌else◌, codes, IsTrue, Option}
use Rattle.std.proofs.lemmas.Bool.{and_from, and_parts}
use Rattle.fx_base.specs.declared.place.Place.{Place}
use Rattle.fx_time.specs.declared.span.Span.{Span}
use Rattle.fx_value.specs.Ends.{Stuck}
use Rattle.fx_value.specs.declared.scalar.Kind.{Kind}
use Rattle.fx_value.specs.declared.scalar.Kind.TheVariants as kind
use Rattle.fx_value.specs.declared.scalar.Scalar.{Scalar}
use Rattle.fx_ops.specs.Call.{called}
use Rattle.fx_ops.specs.Kinds.{is_kind, is_whole}
use Rattle.fx_ops.specs.Signatures.{are_of, argument_kinds, called_kind, further_kind, takes_arguments}
use Rattle.fx_ops.specs.declared.function.ScalarFn.{ScalarFn}
use Rattle.fx_ops.specs.declared.function.ScalarFn.TheVariants as f
use Rattle.fx_types.specs.Ground.{g_bool, g_int, g_text, g_time, g_span, g_array}
use Rattle.fx_types.specs.Kinds.{of_kind}
use Rattle.fx_types.specs.Term.{Label}
use Rattle.fx_schemes.specs.Builtins.{IsLine}
use Rattle.fx_meaning.specs.declared.native.Native.TheVariants as n
use Rattle.fx_meaning.specs.Ends.{◌>>=◌, cell_at, pure}
use Rattle.fx_meaning.specs.Forms.{cell_of, each, items_of, span_in}
use Rattle.fx_meaning.specs.Meaning.{Calls}
use Rattle.fx_meaning.specs.Natives.{cells_in, further_cells, list_label, scalar_answer, scalar_call, scalar_labels, span_label, span_of}
use Rattle.fx_meaning.specs.Value.{Slots}
use Rattle.fx_build.specs.Fit.{each_fits, fits, is_cell}
use Rattle.fx_build.specs.Safe.{IsSafe}
use Rattle.fx_build.proofs.AnswerLaws.{called_makes}
use Rattle.fx_build.proofs.Callable.{NativeRuns}
use Rattle.fx_build.proofs.KindLaws.{cell_at_safe, of_span}
use Rattle.fx_build.proofs.PlainCalls.{IsAt, Lined, argument_then, call_runs, cell_safe, cells_safe, items_safe}
use Rattle.fx_build.proofs.SafeLaws.{safe_then}

-- a value of each kind at each label
abbrev AreAt : Slots → List Kind → List Label → Type 0
AreAt args [] [] = Unit {0}
AreAt args (k ∷ ks) (x ∷ xs) = IsAt args x (of_kind k) × AreAt args ks xs
AreAt args _ _ = ⊥

-- with any further ones behind them, they are of the kinds
abbrev Before : List Kind → Option Kind → List Scalar → Type 0
Before ks further items = (more : List Scalar) → are_of [] further more ≡ true → are_of ks further (items ++ more) ≡ true

scalars_safe : (further : Option Kind) (args : Slots) (ks : List Kind) (xs : List Label) → AreAt args ks xs → IsSafe (Before ks further) (each (λ x. cell_of x args) xs)
scalars_safe further args [] [] h = λ more are. are
scalars_safe further args (k ∷ ks) (x ∷ xs) h =
    safe_then (λ a. IsTrue (is_cell (Some k) a)) (Before (k ∷ ks) further) (cell_of x args) (λ a. each (λ x. cell_of x args) xs >>= (λ items. pure (a ∷ items))) (cell_safe k args x h.0)
    (λ a is. safe_then (Before ks further) (Before (k ∷ ks) further) (each (λ x. cell_of x args) xs) (λ items. pure (a ∷ items)) (scalars_safe further args ks xs h.1)
    (λ items are. λ more all. and_from (is_kind a k) (are_of ks further (items ++ more)) (and_parts (is_kind a k) (is_whole a) is).0 (are more all)))
scalars_safe further args [] (x ∷ xs) h = absurd h
scalars_safe further args (k ∷ ks) [] h = absurd h

span_safe : (args : Slots) (x : Label) → IsAt args x g_span → IsSafe (λ d. Unit {0}) (span_of (Some x) args)
span_safe args x h = argument_then (λ d. Unit {0}) g_span args x span_in h (λ v fit. of_span v (λ y. IsSafe (λ d. Unit {0}) (span_in y)) fit (λ d is. tt))

texts_safe : (args : Slots) (x : Label) → IsAt args x (g_array g_text) → IsSafe (λ items. are_of [] (Some kind.Text) items ≡ true) (further_cells (Some x) args)
texts_safe args x h =
    safe_then (λ vs. each_fits vs g_text) (λ items. are_of [] (Some kind.Text) items ≡ true) (items_of x args) cells_in (items_safe g_text args x h) (λ vs fit. cells_safe kind.Text vs fit)

scalar_answers : (g : ScalarFn) (place : Place) (args : Slots) → AreAt args (argument_kinds g) (scalar_labels g)
    → IsSafe (λ items. are_of [] (further_kind g) items ≡ true) (further_cells (list_label g) args) → IsSafe (λ d. Unit {0}) (span_of (span_label g) args)
    → IsSafe (λ v. fits v (of_kind (called_kind g))) (scalar_call place g args)
scalar_answers g place args at further span =
    safe_then (Before (argument_kinds g) (further_kind g)) (λ v. fits v (of_kind (called_kind g))) (each (λ x. cell_of x args) (scalar_labels g))
    (λ items. further_cells (list_label g) args >>= (λ more. span_of (span_label g) args >>= scalar_answer place g (items ++ more)))
    (scalars_safe (further_kind g) args (argument_kinds g) (scalar_labels g) at)
    (λ items are. safe_then (λ more. are_of [] (further_kind g) more ≡ true) (λ v. fits v (of_kind (called_kind g))) (further_cells (list_label g) args)
    (λ more. span_of (span_label g) args >>= scalar_answer place g (items ++ more)) further
    (λ more all. safe_then (λ d. Unit {0}) (λ v. fits v (of_kind (called_kind g))) (span_of (span_label g) args) (scalar_answer place g (items ++ more)) span
    (λ d _. answer_safe (items ++ more) d (are more all))))
  where
    answer_safe : (items : List Scalar) (d : Span) → takes_arguments g items ≡ true → IsSafe (λ v. fits v (of_kind (called_kind g))) (scalar_answer place g items d)
    answer_safe items d taken =
        subst (λ c. IsSafe (λ v. fits v (of_kind (called_kind g))) (if c then cell_at place (called g items d) else Stuck)) (sym taken)
        (cell_at_safe place (called_kind g) (called g items d) (called_makes g items d))

-- ---- each function's line

scalar_lined : (g : ScalarFn) → Lined (n.Scalar g)
unfolding IsLine
scalar_lined f.ContainsStr w L h =
    ((codes "v", g_text) ∷ (codes "substr", g_text) ∷ [], g_bool, h, λ place moment args within suit. scalar_answers f.ContainsStr place args (suit (codes "v") refl, (suit (codes "substr") refl, tt)) refl tt)
scalar_lined f.HasPrefix w L h =
    ((codes "v", g_text) ∷ (codes "prefix", g_text) ∷ [], g_bool, h, λ place moment args within suit. scalar_answers f.HasPrefix place args (suit (codes "v") refl, (suit (codes "prefix") refl, tt)) refl tt)
scalar_lined f.HasSuffix w L h =
    ((codes "v", g_text) ∷ (codes "suffix", g_text) ∷ [], g_bool, h, λ place moment args within suit. scalar_answers f.HasSuffix place args (suit (codes "v") refl, (suit (codes "suffix") refl, tt)) refl tt)
scalar_lined f.Strlen w L h =
    ((codes "v", g_text) ∷ [], g_int, h, λ place moment args within suit. scalar_answers f.Strlen place args (suit (codes "v") refl, tt) refl tt)
scalar_lined f.Substring w L h =
    ((codes "v", g_text) ∷ (codes "start", g_int) ∷ (codes "end", g_int) ∷ [], g_text, h, λ place moment args within suit. scalar_answers f.Substring place args (suit (codes "v") refl, (suit (codes "start") refl, (suit (codes "end") refl, tt))) refl tt)
scalar_lined f.TrimPrefix w L h =
    ((codes "v", g_text) ∷ (codes "prefix", g_text) ∷ [], g_text, h, λ place moment args within suit. scalar_answers f.TrimPrefix place args (suit (codes "v") refl, (suit (codes "prefix") refl, tt)) refl tt)
scalar_lined f.TrimSuffix w L h =
    ((codes "v", g_text) ∷ (codes "suffix", g_text) ∷ [], g_text, h, λ place moment args within suit. scalar_answers f.TrimSuffix place args (suit (codes "v") refl, (suit (codes "suffix") refl, tt)) refl tt)
scalar_lined f.ReplaceAll w L h =
    ((codes "v", g_text) ∷ (codes "t", g_text) ∷ (codes "u", g_text) ∷ [], g_text, h, λ place moment args within suit. scalar_answers f.ReplaceAll place args (suit (codes "v") refl, (suit (codes "t") refl, (suit (codes "u") refl, tt))) refl tt)
scalar_lined f.JoinStr w L h =
    ((codes "arr", g_array g_text) ∷ (codes "v", g_text) ∷ [], g_text, h, λ place moment args within suit. scalar_answers f.JoinStr place args (suit (codes "v") refl, tt) (texts_safe args (codes "arr") (suit (codes "arr") refl)) tt)
scalar_lined f.Repeat w L h =
    ((codes "v", g_text) ∷ (codes "i", g_int) ∷ [], g_text, h, λ place moment args within suit. scalar_answers f.Repeat place args (suit (codes "v") refl, (suit (codes "i") refl, tt)) refl tt)
scalar_lined f.Year w L h =
    ((codes "t", g_time) ∷ [], g_int, h, λ place moment args within suit. scalar_answers f.Year place args (suit (codes "t") refl, tt) refl tt)
scalar_lined f.Month w L h =
    ((codes "t", g_time) ∷ [], g_int, h, λ place moment args within suit. scalar_answers f.Month place args (suit (codes "t") refl, tt) refl tt)
scalar_lined f.MonthDay w L h =
    ((codes "t", g_time) ∷ [], g_int, h, λ place moment args within suit. scalar_answers f.MonthDay place args (suit (codes "t") refl, tt) refl tt)
scalar_lined f.YearDay w L h =
    ((codes "t", g_time) ∷ [], g_int, h, λ place moment args within suit. scalar_answers f.YearDay place args (suit (codes "t") refl, tt) refl tt)
scalar_lined f.WeekDay w L h =
    ((codes "t", g_time) ∷ [], g_int, h, λ place moment args within suit. scalar_answers f.WeekDay place args (suit (codes "t") refl, tt) refl tt)
scalar_lined f.Hour w L h =
    ((codes "t", g_time) ∷ [], g_int, h, λ place moment args within suit. scalar_answers f.Hour place args (suit (codes "t") refl, tt) refl tt)
scalar_lined f.Minute w L h =
    ((codes "t", g_time) ∷ [], g_int, h, λ place moment args within suit. scalar_answers f.Minute place args (suit (codes "t") refl, tt) refl tt)
scalar_lined f.Second w L h =
    ((codes "t", g_time) ∷ [], g_int, h, λ place moment args within suit. scalar_answers f.Second place args (suit (codes "t") refl, tt) refl tt)
scalar_lined f.Nanosecond w L h =
    ((codes "t", g_time) ∷ [], g_int, h, λ place moment args within suit. scalar_answers f.Nanosecond place args (suit (codes "t") refl, tt) refl tt)
scalar_lined f.Truncate w L h =
    ((codes "t", g_time) ∷ (codes "unit", g_span) ∷ [], g_time, h, λ place moment args within suit. scalar_answers f.Truncate place args (suit (codes "t") refl, tt) refl (span_safe args (codes "unit") (suit (codes "unit") refl)))
scalar_lined f.Add w L h =
    ((codes "d", g_span) ∷ (codes "to", g_time) ∷ [], g_time, h, λ place moment args within suit. scalar_answers f.Add place args (suit (codes "to") refl, tt) refl (span_safe args (codes "d") (suit (codes "d") refl)))
scalar_lined f.Sub w L h =
    ((codes "d", g_span) ∷ (codes "from", g_time) ∷ [], g_time, h, λ place moment args within suit. scalar_answers f.Sub place args (suit (codes "from") refl, tt) refl (span_safe args (codes "d") (suit (codes "d") refl)))

pub scalar_runs : (calls : Calls) (g : ScalarFn) → NativeRuns calls (n.Scalar g)
scalar_runs calls g = call_runs calls (n.Scalar g) (scalar_lined g)
