-- Calls of functions that give scalars.
use Rattle.std.specs.Prelude.{ℕ, Bool, true, false, nat_eq, List, length, Result, Ok, ℤ, pos}
use Rattle.std.specs.List.{starts_with, ends_with}
use Rattle.std.specs.Str.{chars}
use Rattle.fx_base.specs.declared.fault.FaultKind.{FaultKind}
use Rattle.fx_time.specs.Fields.{fields_of}
use Rattle.fx_time.specs.declared.span.Span.{Span}
use Rattle.fx_value.specs.declared.scalar.Scalar.{Scalar}
use Rattle.fx_value.specs.declared.scalar.Scalar.TheVariants as scalar
use Rattle.fx_ops.specs.Arguments.{text_at, int_at, time_at, texts_in, ◌>>=◌}
use Rattle.fx_ops.specs.Limit.{limited}
use Rattle.fx_ops.specs.Dates.{shown, truncated, added, subtracted}
use Rattle.fx_ops.specs.Texts.{occurs, substring, without_front, without_back, replaced, joined, repeated}
use Rattle.fx_ops.specs.declared.dates.Field.{Field}
use Rattle.fx_ops.specs.declared.dates.Field.TheVariants as field
use Rattle.fx_ops.specs.declared.function.ScalarFn.{ScalarFn}
use Rattle.fx_ops.specs.declared.function.ScalarFn.TheVariants.{ContainsStr, HasPrefix, HasSuffix, Strlen, Substring, TrimPrefix, TrimSuffix, ReplaceAll, JoinStr, Repeat, Year, Month, MonthDay, YearDay, WeekDay, Hour, Minute, Second, Nanosecond, Truncate, Add, Sub}

-- a test of two texts
abbrev pub tested : (List ℕ → List ℕ → Bool) → List Scalar → Result Scalar FaultKind
tested test args = do
  text ← text_at args 0
  part ← text_at args 1
  Ok (scalar.Bool (test text part))

-- a text made of two, where it isn't too long
abbrev pub made : (List ℕ → List ℕ → List ℕ) → List Scalar → Result Scalar FaultKind
made form args = do
  text ← text_at args 0
  part ← text_at args 1
  limited (form text part)

-- the number of characters
abbrev pub strlen : List Scalar → Result Scalar FaultKind
strlen args = do
  text ← text_at args 0
  Ok (scalar.Int (pos (length (chars text))))

abbrev pub cut : List Scalar → Result Scalar FaultKind
cut args = do
  text ← text_at args 0
  from ← int_at args 1
  to ← int_at args 2
  substring text from to

abbrev pub replaced_in : List Scalar → Result Scalar FaultKind
replaced_in args = do
  text ← text_at args 0
  old ← text_at args 1
  new ← text_at args 2
  limited (replaced text old new)

-- the separator comes before the texts
abbrev pub joined_in : List Scalar → Result Scalar FaultKind
joined_in args = do
  texts ← texts_in args
  limited (joined texts)

abbrev pub repeated_in : List Scalar → Result Scalar FaultKind
repeated_in args = do
  text ← text_at args 0
  count ← int_at args 1
  repeated text count

-- what is told of a time
abbrev pub told : (ℤ → Result Scalar FaultKind) → List Scalar → Result Scalar FaultKind
told answer args = do
  t ← time_at args 0
  answer t

abbrev pub shown_in : Field → List Scalar → Result Scalar FaultKind
shown_in f args = told (λ t. Ok (scalar.Int (shown f (fields_of t)))) args

-- the value or the fault of a call; the span is read by the last three alone
abbrev pub called : ScalarFn → List Scalar → Span → Result Scalar FaultKind
called ContainsStr args span = tested (λ text part. occurs part text) args
called HasPrefix args span = tested (λ text front. starts_with nat_eq text front) args
called HasSuffix args span = tested (λ text back. ends_with nat_eq text back) args
called Strlen args span = strlen args
called Substring args span = cut args
called TrimPrefix args span = made (λ text front. without_front front text) args
called TrimSuffix args span = made (λ text back. without_back back text) args
called ReplaceAll args span = replaced_in args
called JoinStr args span = joined_in args
called Repeat args span = repeated_in args
called Year args span = shown_in field.Year args
called Month args span = shown_in field.Month args
called MonthDay args span = shown_in field.MonthDay args
called YearDay args span = shown_in field.YearDay args
called WeekDay args span = shown_in field.WeekDay args
called Hour args span = shown_in field.Hour args
called Minute args span = shown_in field.Minute args
called Second args span = shown_in field.Second args
called Nanosecond args span = shown_in field.Nanosecond args
called Truncate args span = told (λ t. truncated t span) args
called Add args span = told (λ t. added t span) args
called Sub args span = told (λ t. subtracted t span) args

-- the function gives texts
abbrev pub makes_text : ScalarFn → Bool
makes_text Substring = true
makes_text TrimPrefix = true
makes_text TrimSuffix = true
makes_text ReplaceAll = true
makes_text JoinStr = true
makes_text Repeat = true
makes_text _ = false
