-- Of which kind the answers of functions on scalars are.
use Rattle.std.proofs.Common.{refl, Bool, true, false, List, length, ℤ, ℕ, pos, negsuc, Some, None, Err}
use Rattle.std.specs.Prelude.{◌&&◌, if◌then◌else◌, int_le, neg_ℤ, unsigned_abs, Option, Result}
use Rattle.std.specs.List.{repeat}
use Rattle.std.specs.Str.{chars}
use Rattle.fx_base.specs.declared.fault.FaultKind.{FaultKind}
use Rattle.fx_base.specs.declared.fault.FaultKind.TheVariants.{BadWindow, IndexRange, TimeRange}
use Rattle.fx_time.specs.Spans.{moment, span_after}
use Rattle.fx_time.specs.Windows.{window_start}
use Rattle.fx_time.specs.declared.span.Span.{Span}
use Rattle.fx_value.specs.declared.scalar.Kind.{Kind}
use Rattle.fx_value.specs.declared.scalar.Kind.TheVariants as kind
use Rattle.fx_value.specs.declared.scalar.Scalar.{Scalar}
use Rattle.fx_ops.specs.Arguments.{text_at, int_at, time_at, texts_in, ◌>>=◌}
use Rattle.fx_ops.specs.Call.{called, made, tested, told}
use Rattle.fx_ops.specs.Dates.{added, is_unit, subtracted, time_from, truncated, window_at}
use Rattle.fx_ops.specs.Limit.{limited}
use Rattle.fx_ops.specs.Signatures.{called_kind}
use Rattle.fx_ops.specs.Texts.{between, joined, repeated, replaced, substring}
use Rattle.fx_ops.specs.Whole.{in_64_bits}
use Rattle.fx_ops.specs.declared.function.ScalarFn.{ScalarFn}
use Rattle.fx_ops.specs.declared.function.ScalarFn.TheVariants as f
use Rattle.fx_build.proofs.KindLaws.{Makes}
use Rattle.fx_build.proofs.OperatorLaws.{limited_makes}

pub either_makes : (k : Kind) (c : Bool) (x y : Result Scalar FaultKind) → Makes k x → Makes k y → Makes k (if c then x else y)
either_makes k true x y h j = h
either_makes k false x y h j = j

-- null where an argument reads as none
bound : {A : Type 0} (k : Kind) (found : Option A) (answer : A → Result Scalar FaultKind) → ((x : A) → Makes k (answer x)) → Makes k (found >>= answer)
bound k None answer h = refl
bound k (Some x) answer h = h x

tested_makes : (test : List ℕ → List ℕ → Bool) (args : List Scalar) → Makes kind.Bool (tested test args)
tested_makes test args = bound kind.Bool (text_at args 0) _ (λ text. bound kind.Bool (text_at args 1) _ (λ part. refl))

made_makes : (form : List ℕ → List ℕ → List ℕ) (args : List Scalar) → Makes kind.Text (made form args)
made_makes form args = bound kind.Text (text_at args 0) _ (λ text. bound kind.Text (text_at args 1) _ (λ part. limited_makes (form text part)))

substring_makes : (text : List ℕ) (from to : ℤ) → Makes kind.Text (substring text from to)
substring_makes text from to =
    either_makes kind.Text (int_le (pos 0) from && int_le from to && int_le to (pos (length (chars text)))) (limited (between (unsigned_abs from) (unsigned_abs to) text)) (Err IndexRange)
    (limited_makes (between (unsigned_abs from) (unsigned_abs to) text)) tt

repeated_makes : (text : List ℕ) (count : ℤ) → Makes kind.Text (repeated text count)
repeated_makes text (pos n) = limited_makes (repeat n text)
repeated_makes text (negsuc n) = tt

time_makes : (t : Option ℤ) → Makes kind.Time (time_from t)
time_makes (Some t) = refl
time_makes None = tt

told_makes : (k : Kind) (answer : ℤ → Result Scalar FaultKind) (args : List Scalar) → ((t : ℤ) → Makes k (answer t)) → Makes k (told answer args)
told_makes k answer args h = bound k (time_at args 0) answer h

truncated_makes : (t : ℤ) (unit : Span) → Makes kind.Time (truncated t unit)
truncated_makes t unit =
    either_makes kind.Time (is_unit unit) (time_from (moment (window_start unit (window_at unit t)))) (Err BadWindow) (time_makes (moment (window_start unit (window_at unit t)))) tt

subtracted_makes : (t : ℤ) (span : Span) → Makes kind.Time (subtracted t span)
subtracted_makes t span =
    let back : Span = record { months = neg_ℤ span.months; nanos = neg_ℤ span.nanos } in
    either_makes kind.Time (in_64_bits (neg_ℤ span.months) && in_64_bits (neg_ℤ span.nanos)) (added t back) (Err TimeRange) (time_makes (span_after t back)) tt

pub called_makes : (g : ScalarFn) (args : List Scalar) (span : Span) → Makes (called_kind g) (called g args span)
called_makes f.ContainsStr args span = tested_makes _ args
called_makes f.HasPrefix args span = tested_makes _ args
called_makes f.HasSuffix args span = tested_makes _ args
called_makes f.Strlen args span = bound kind.Int (text_at args 0) _ (λ text. refl)
called_makes f.Substring args span =
    bound kind.Text (text_at args 0) _ (λ text. bound kind.Text (int_at args 1) _ (λ from. bound kind.Text (int_at args 2) _ (λ to. substring_makes text from to)))
called_makes f.TrimPrefix args span = made_makes _ args
called_makes f.TrimSuffix args span = made_makes _ args
called_makes f.ReplaceAll args span =
    bound kind.Text (text_at args 0) _ (λ text. bound kind.Text (text_at args 1) _ (λ old. bound kind.Text (text_at args 2) _ (λ new. limited_makes (replaced text old new))))
called_makes f.JoinStr args span = bound kind.Text (texts_in args) _ (λ texts. limited_makes (joined texts))
called_makes f.Repeat args span = bound kind.Text (text_at args 0) _ (λ text. bound kind.Text (int_at args 1) _ (λ count. repeated_makes text count))
called_makes f.Truncate args span = told_makes kind.Time _ args (λ t. truncated_makes t span)
called_makes f.Add args span = told_makes kind.Time _ args (λ t. time_makes (span_after t span))
called_makes f.Sub args span = told_makes kind.Time _ args (λ t. subtracted_makes t span)
called_makes _ args span = told_makes kind.Int _ args (λ t. refl)
