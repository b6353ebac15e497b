-- Values of the types of columns, of durations and of patterns.
use Rattle.std.proofs.Common.{◌≡◌, refl, Bool, true, false, ℕ, ℤ, Some, Ok, Err, FitsSigned, w64, None}
use Rattle.std.specs.Prelude.{if◌then◌else◌, IsTrue, Result, List}
use mathlib.Core.Bool.{false≢true}
use Rattle.fx_base.specs.declared.fault.FaultKind.{FaultKind}
use Rattle.fx_base.specs.declared.fault.FaultKind.TheVariants.{Overflow, TimeRange, TooLarge}
use Rattle.fx_base.specs.declared.place.Place.{Place}
use Rattle.fx_time.proofs.TestLemmas.{moment_in}
use Rattle.fx_time.specs.declared.span.Span.{Span}
use Rattle.fx_value.specs.Ends.{End}
use Rattle.fx_value.specs.declared.scalar.Kind.{Kind}
use Rattle.fx_value.specs.declared.scalar.Kind.TheVariants as kind
use Rattle.fx_value.specs.declared.scalar.Scalar.{Scalar}
use Rattle.fx_value.specs.declared.scalar.Scalar.TheVariants as scalar
use Rattle.fx_ops.specs.Kinds.{is_kind}
use Rattle.fx_ops.specs.Limit.{is_short}
use Rattle.fx_ops.specs.Whole.{in_64_bits}
use Rattle.fx_types.specs.Ground.{Ground, GroundRow, g_span, g_pattern, g_array, g_rec}
use Rattle.fx_types.specs.Kinds.{of_kind}
use Rattle.fx_meaning.specs.Ends.{◌>>=◌, pure, answered, cell_at, ranged}
use Rattle.fx_meaning.specs.Value.{Val, cell, span, pattern, array, rec, Vals, Slots}
use Rattle.fx_build.specs.Fit.{fits, is_cell, SpanFits, each_fits, RecordFits, keeps_at}
use Rattle.fx_build.specs.Safe.{IsSafe}
use Rattle.fx_build.proofs.SafeLaws.{safe_later}

pub fits_test : (n : ℤ) → FitsSigned w64 n → in_64_bits n ≡ true
fits_test n fit = elim (in_64_bits n) as (λ b. (if b then Some n else None) ≡ Some n → b ≡ true) [
  | true ↦ λ e. refl
  | false ↦ λ e. absurd cc
] (moment_in n fit)

-- ---- what has the form of a type

pub of_cell : (k : Kind) (v : Val) (P : Val → Type 0) → fits v (of_kind k) → ((a : Scalar) → IsTrue (is_cell (Some k) a) → P (cell a)) → P v
of_cell kind.Bool (cell a) P h f = f a h
of_cell kind.Int (cell a) P h f = f a h
of_cell kind.Text (cell a) P h f = f a h
of_cell kind.Time (cell a) P h f = f a h
of_cell kind.Bool _ P h f = absurd h
of_cell kind.Int _ P h f = absurd h
of_cell kind.Text _ P h f = absurd h
of_cell kind.Time _ P h f = absurd h

pub as_cell : (k : Kind) (a : Scalar) → IsTrue (is_cell (Some k) a) → fits (cell a) (of_kind k)
as_cell kind.Bool a h = h
as_cell kind.Int a h = h
as_cell kind.Text a h = h
as_cell kind.Time a h = h

pub of_span : (v : Val) (P : Val → Type 0) → fits v g_span → ((d : Span) → SpanFits d g_span → P (span d)) → P v
of_span (span d) P h f = f d h
of_span (cell scalar.Null) P h f = absurd (false≢true h)
of_span (cell a) P h f = absurd (false≢true h)
of_span _ P h f = absurd h

pub of_pattern : (v : Val) (P : Val → Type 0) → fits v g_pattern → ((number : ℕ) → P (pattern number)) → P v
of_pattern (pattern number) P h f = f number
of_pattern (cell a) P h f = absurd (false≢true h)
of_pattern _ P h f = absurd h

pub of_array : (t : Ground) (v : Val) (P : Val → Type 0) → fits v (g_array t) → ((vs : Vals) → each_fits vs t → P (array vs)) → P v
of_array t (array vs) P h f = f vs h
of_array t (cell a) P h f = absurd (false≢true h)
of_array t _ P h f = absurd h

pub of_record : (r : GroundRow) (v : Val) (P : Val → Type 0) → fits v (g_rec r) → ((fields : Slots) → RecordFits fields (keeps_at fields) (g_rec r) → P (rec fields)) → P v
of_record r (rec fields) P h f = f fields h
of_record r (cell a) P h f = absurd (false≢true h)
of_record r _ P h f = absurd h

-- null, or what the kind says

pub of_flag : (a : Scalar) (P : Scalar → Type 0) → IsTrue (is_cell (Some kind.Bool) a) → P scalar.Null → ((b : Bool) → P (scalar.Bool b)) → P a
of_flag scalar.Null P h none some = none
of_flag (scalar.Bool b) P h none some = some b
of_flag _ P h none some = absurd (false≢true h)

pub of_int : (a : Scalar) (P : Scalar → Type 0) → IsTrue (is_cell (Some kind.Int) a) → P scalar.Null → ((n : ℤ) → IsTrue (in_64_bits n) → P (scalar.Int n)) → P a
of_int scalar.Null P h none some = none
of_int (scalar.Int n) P h none some = some n h
of_int _ P h none some = absurd (false≢true h)

pub of_text : (a : Scalar) (P : Scalar → Type 0) → IsTrue (is_cell (Some kind.Text) a) → P scalar.Null → ((s : List ℕ) → P (scalar.Text s)) → P a
of_text scalar.Null P h none some = none
of_text (scalar.Text s) P h none some = some s
of_text _ P h none some = absurd (false≢true h)

-- ---- what rules answer with

-- the answer is null or of the kind
abbrev pub Makes : Kind → Result Scalar FaultKind → Type 0
Makes k (Ok a) = IsTrue (is_kind a k)
Makes k (Err fault) = Unit {0}

abbrev pub cell_answered : Place → Result Scalar FaultKind → End Val
cell_answered place answer = answered place answer >>= (λ b. pure (cell b))

pub checked : (place : Place) (P : Val → Type 0) (c : Bool) (a : Scalar) (fault : FaultKind) → (c ≡ true → P (cell a)) → IsSafe P (cell_answered place (if c then Ok a else Err fault))
checked place P true a fault h = h refl
checked place P false a fault h = tt

ranged_safe : (place : Place) (k : Kind) (a : Scalar) → IsTrue (is_kind a k) → IsSafe (λ v. fits v (of_kind k)) (cell_answered place (ranged a))
ranged_safe place k scalar.Null is = as_cell k scalar.Null refl
ranged_safe place kind.Bool (scalar.Bool b) is = refl
ranged_safe place kind.Int (scalar.Int n) is = checked place (λ v. fits v (of_kind kind.Int)) (in_64_bits n) (scalar.Int n) Overflow (λ e. e)
ranged_safe place kind.Text (scalar.Text text) is = checked place (λ v. fits v (of_kind kind.Text)) (is_short text) (scalar.Text text) TooLarge (λ e. refl)
ranged_safe place kind.Time (scalar.Time t) is = checked place (λ v. fits v (of_kind kind.Time)) (in_64_bits t) (scalar.Time t) TimeRange (λ e. e)
ranged_safe place kind.Bool _ is = absurd (false≢true is)
ranged_safe place kind.Int _ is = absurd (false≢true is)
ranged_safe place kind.Text _ is = absurd (false≢true is)
ranged_safe place kind.Time _ is = absurd (false≢true is)

pub cell_at_safe : (place : Place) (k : Kind) (answer : Result Scalar FaultKind) → Makes k answer → IsSafe (λ v. fits v (of_kind k)) (cell_at place answer)
cell_at_safe place k (Ok a) is = safe_later (λ v. fits v (of_kind k)) 0 (cell_answered place (ranged a)) (ranged_safe place k a is)
cell_at_safe place k (Err fault) is = tt
