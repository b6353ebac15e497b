-- Each answer is null or of its kind, and a text that is not too long.
use lib.Signed.{mag}
use Rattle.std.proofs.Common.{ℕ, ◌-◌, ◌^◌, ◌<◌, Bool, true, false, List, length, ℤ, pos, Some, None, refl, arith}
use Rattle.std.specs.Prelude.{◌≡◌, codes, ◌&&◌, ◌+ℤ◌, ◌-ℤ◌, ◌*ℤ◌, if◌then◌else◌, Option, Result, Ok, Err, IfOk, IsTrue, negsuc, neg_ℤ, int_le, int_div, int_rem, unsigned_abs}
use Rattle.std.specs.List.{repeat}
use Rattle.std.specs.Ordering.{int_eq}
use Rattle.std.specs.Str.{chars}
use Rattle.std.specs.Fmt.{signed_decimal}
use Rattle.std.proofs.lemmas.Fmt.{length_signed_le}
use Rattle.std.proofs.lemmas.Bool.{and_from, and_parts, le-leb, leb-true}
use Rattle.fx_base.specs.declared.fault.FaultKind.{FaultKind}
use Rattle.fx_base.specs.declared.fault.FaultKind.TheVariants.{TooLarge, Overflow, DivideByZero, IndexRange, BadConversion, BadWindow, TimeRange}
use Rattle.fx_base.specs.Text.{same_text}
use Rattle.fx_time.specs.Time.{time_text}
use Rattle.fx_time.specs.Value.{time_value}
use Rattle.fx_time.specs.Spans.{moment, span_after}
use Rattle.fx_time.specs.Windows.{window_start}
use Rattle.fx_value.specs.Scalar.{kind_of}
use Rattle.fx_value.specs.declared.scalar.Kind.{Kind}
use Rattle.fx_value.specs.declared.scalar.Kind.TheVariants as kind
use Rattle.fx_value.specs.declared.scalar.Scalar.{Scalar}
use Rattle.fx_value.specs.declared.scalar.Scalar.TheVariants as scalar
use Rattle.fx_time.specs.declared.span.Span.{Span}
use Rattle.fx_ops.specs.Answer.{Gives}
use Rattle.fx_ops.specs.Arguments.{text_at, int_at, time_at, texts_in, ◌>>=◌}
use Rattle.fx_ops.specs.Binary.{answer_kind, at_kinds, binary_of, work_of, worked_at}
use Rattle.fx_ops.specs.Call.{called, made, tested, told}
use Rattle.fx_ops.specs.Convert.{converted, flag, int_value, named_flag, read}
use Rattle.fx_ops.specs.Dates.{time_from, truncated, added, subtracted, is_unit, window_at}
use Rattle.fx_ops.specs.Kinds.{is_kind, is_limited, is_whole, in_range}
use Rattle.fx_ops.specs.Limit.{is_short, limited}
use Rattle.fx_ops.specs.Operand.{number}
use Rattle.fx_ops.specs.Signatures.{called_kind}
use Rattle.fx_ops.specs.Texts.{between, joined, repeated, replaced, substring}
use Rattle.fx_ops.specs.Whole.{in_64_bits, whole, quotient, remainder, negation}
use Rattle.fx_ops.specs.declared.fault.OpFault.{OpFault}
use Rattle.fx_ops.specs.declared.function.ScalarFn.{ScalarFn}
use Rattle.fx_ops.specs.declared.function.ScalarFn.TheVariants as function
use Rattle.fx_ops.specs.declared.operator.BinaryOp.{BinaryOp}
use Rattle.fx_ops.specs.declared.operator.BinaryOp.TheVariants.{Add, Sub, Mul, Div, Rem, Eq, Ne, Lt, Le, Gt, Ge}

-- the value, where there is one, passes the test
abbrev pub Passes : (Scalar → Bool) → Result Scalar FaultKind → Type 0
Passes test (Ok value) = IsTrue (test value)
Passes test (Err kind) = Unit {0}

-- null or of the kind, and no text that is too long
abbrev pub suits : Kind → Scalar → Bool
suits k value = is_kind value k && is_limited value

-- a value that is answered is null or of its kind
pub kind_told : (k : Kind) (wanted : Result Scalar FaultKind) (value : Scalar) → wanted ≡ Ok value → Passes (suits k) wanted → IsTrue (is_kind value k)
kind_told k wanted value gives passes =
    let suited : IsTrue (suits k value) = rw gives at passes in
    (and_parts (is_kind value k) (is_limited value) suited).0

-- and in range, where it is an integer or a time only in 64 bits
pub range_told : (k : Kind) (wanted : Result Scalar FaultKind) (value : Scalar) → wanted ≡ Ok value → Passes (suits k) wanted → IsTrue (is_whole value)
    → IsTrue (in_range value)
range_told k wanted value gives passes whole =
    let suited : IsTrue (suits k value) = rw gives at passes in
    and_from (is_whole value) (is_limited value) whole (and_parts (is_kind value k) (is_limited value) suited).1

-- ---- the parts that answers are made of

pub limited_suits : (text : List ℕ) → Passes (suits kind.Text) (limited text)
limited_suits text = elim (is_short text) as (λ b. is_short text ≡ b → Passes (suits kind.Text) (if b then Ok (scalar.Text text) else Err TooLarge)) [
  | true ↦ λ e. e
  | false ↦ λ e. tt
] refl

limited_in_range : (text : List ℕ) → Passes in_range (limited text)
limited_in_range text = elim (is_short text) as (λ b. is_short text ≡ b → Passes in_range (if b then Ok (scalar.Text text) else Err TooLarge)) [
  | true ↦ λ e. e
  | false ↦ λ e. tt
] refl

-- a text that is answered is not too long
pub limited_told : (text : List ℕ) (answer : Result Scalar OpFault) → Gives (limited text) answer → IfOk answer (λ value. IsTrue (in_range value))
limited_told text (Err f) gives = tt
limited_told text (Ok value) gives = let ranged = limited_in_range text in rw gives at ranged

whole_suits : (n : ℤ) → Passes (suits kind.Int) (whole n)
whole_suits n = elim (in_64_bits n) as (λ b. Passes (suits kind.Int) (if b then Ok (scalar.Int n) else Err Overflow)) [ true ↦ refl | false ↦ tt ]

quotient_suits : (a b : ℤ) → Passes (suits kind.Int) (quotient a b)
quotient_suits a b = elim (int_eq b (pos 0)) as (λ none. Passes (suits kind.Int) (if none then Err DivideByZero else whole (int_div a b))) [
  | true ↦ tt
  | false ↦ whole_suits (int_div a b)
]

remainder_suits : (a b : ℤ) → Passes (suits kind.Int) (remainder a b)
remainder_suits a b = elim (int_eq b (pos 0)) as (λ none. Passes (suits kind.Int) (if none then Err DivideByZero else Ok (scalar.Int (int_rem a b)))) [ true ↦ tt | false ↦ refl ]

pub negation_suits : (a : Scalar) → Passes (suits kind.Int) (negation a)
negation_suits scalar.Null = refl
negation_suits (scalar.Bool b) = refl
negation_suits (scalar.Int n) = whole_suits (neg_ℤ n)
negation_suits (scalar.Text text) = refl
negation_suits (scalar.Time t) = refl

-- ---- operators between two operands

work_suits : (which : BinaryOp) (k : Kind) (a b : Scalar) → Passes (suits (answer_kind which k)) (worked_at (work_of which k) a b)
work_suits Add kind.Bool a b = refl
work_suits Add kind.Int a b = whole_suits (number a +ℤ number b)
work_suits Add kind.Text a b = limited_suits _
work_suits Add kind.Time a b = refl
work_suits Sub kind.Bool a b = refl
work_suits Sub kind.Int a b = whole_suits (number a -ℤ number b)
work_suits Sub kind.Text a b = refl
work_suits Sub kind.Time a b = refl
work_suits Mul kind.Bool a b = refl
work_suits Mul kind.Int a b = whole_suits (number a *ℤ number b)
work_suits Mul kind.Text a b = refl
work_suits Mul kind.Time a b = refl
work_suits Div kind.Bool a b = refl
work_suits Div kind.Int a b = quotient_suits (number a) (number b)
work_suits Div kind.Text a b = refl
work_suits Div kind.Time a b = refl
work_suits Rem kind.Bool a b = refl
work_suits Rem kind.Int a b = remainder_suits (number a) (number b)
work_suits Rem kind.Text a b = refl
work_suits Rem kind.Time a b = refl
work_suits Eq kind.Bool a b = refl
work_suits Eq kind.Int a b = refl
work_suits Eq kind.Text a b = refl
work_suits Eq kind.Time a b = refl
work_suits Ne kind.Bool a b = refl
work_suits Ne kind.Int a b = refl
work_suits Ne kind.Text a b = refl
work_suits Ne kind.Time a b = refl
work_suits Lt kind.Bool a b = refl
work_suits Lt kind.Int a b = refl
work_suits Lt kind.Text a b = refl
work_suits Lt kind.Time a b = refl
work_suits Le kind.Bool a b = refl
work_suits Le kind.Int a b = refl
work_suits Le kind.Text a b = refl
work_suits Le kind.Time a b = refl
work_suits Gt kind.Bool a b = refl
work_suits Gt kind.Int a b = refl
work_suits Gt kind.Text a b = refl
work_suits Gt kind.Time a b = refl
work_suits Ge kind.Bool a b = refl
work_suits Ge kind.Int a b = refl
work_suits Ge kind.Text a b = refl
work_suits Ge kind.Time a b = refl

kinds_suit : (which : BinaryOp) (k : Kind) (l : Option Kind) (a b : Scalar) → Passes (suits (answer_kind which k)) (at_kinds which (Some k) l a b)
kinds_suit which k None a b = refl
kinds_suit which k (Some l) a b = work_suits which k a b

pub binary_suits : (which : BinaryOp) (k : Kind) (a b : Scalar) → IsTrue (is_kind a k) → Passes (suits (answer_kind which k)) (binary_of which a b)
binary_suits which k scalar.Null b is = refl
binary_suits which kind.Bool (scalar.Bool x) b is = kinds_suit which kind.Bool (kind_of b) (scalar.Bool x) b
binary_suits which kind.Int (scalar.Bool x) b is = absurd cc
binary_suits which kind.Text (scalar.Bool x) b is = absurd cc
binary_suits which kind.Time (scalar.Bool x) b is = absurd cc
binary_suits which kind.Bool (scalar.Int n) b is = absurd cc
binary_suits which kind.Int (scalar.Int n) b is = kinds_suit which kind.Int (kind_of b) (scalar.Int n) b
binary_suits which kind.Text (scalar.Int n) b is = absurd cc
binary_suits which kind.Time (scalar.Int n) b is = absurd cc
binary_suits which kind.Bool (scalar.Text text) b is = absurd cc
binary_suits which kind.Int (scalar.Text text) b is = absurd cc
binary_suits which kind.Text (scalar.Text text) b is = kinds_suit which kind.Text (kind_of b) (scalar.Text text) b
binary_suits which kind.Time (scalar.Text text) b is = absurd cc
binary_suits which kind.Bool (scalar.Time t) b is = absurd cc
binary_suits which kind.Int (scalar.Time t) b is = absurd cc
binary_suits which kind.Text (scalar.Time t) b is = absurd cc
binary_suits which kind.Time (scalar.Time t) b is = kinds_suit which kind.Time (kind_of b) (scalar.Time t) b

-- a kind that the value is of, or null
abbrev pub own_kind : Scalar → Kind
own_kind scalar.Null = kind.Bool
own_kind (scalar.Bool b) = kind.Bool
own_kind (scalar.Int n) = kind.Int
own_kind (scalar.Text text) = kind.Text
own_kind (scalar.Time t) = kind.Time

pub own_is : (a : Scalar) → IsTrue (is_kind a (own_kind a))
own_is scalar.Null = refl
own_is (scalar.Bool b) = refl
own_is (scalar.Int n) = refl
own_is (scalar.Text text) = refl
own_is (scalar.Time t) = refl

-- ---- calls of functions

bound : {A : Type 0} (k : Kind) (found : Option A) (answer : A → Result Scalar FaultKind) → ((x : A) → Passes (suits k) (answer x)) → Passes (suits k) (found >>= answer)
bound k None answer suit = refl
bound k (Some x) answer suit = suit x

tested_suits : (test : List ℕ → List ℕ → Bool) (args : List Scalar) → Passes (suits kind.Bool) (tested test args)
tested_suits test args = bound kind.Bool (text_at args 0) _ (λ text. bound kind.Bool (text_at args 1) _ (λ part. refl))

made_suits : (form : List ℕ → List ℕ → List ℕ) (args : List Scalar) → Passes (suits kind.Text) (made form args)
made_suits form args = bound kind.Text (text_at args 0) _ (λ text. bound kind.Text (text_at args 1) _ (λ part. limited_suits (form text part)))

substring_suits : (text : List ℕ) (from to : ℤ) → Passes (suits kind.Text) (substring text from to)
substring_suits text from to =
    elim (int_le (pos 0) from && int_le from to && int_le to (pos (length (chars text))))
    as (λ b. Passes (suits kind.Text) (if b then limited (between (unsigned_abs from) (unsigned_abs to) text) else Err IndexRange)) [
      | true ↦ limited_suits (between (unsigned_abs from) (unsigned_abs to) text)
      | false ↦ tt
    ]

repeated_suits : (text : List ℕ) (count : ℤ) → Passes (suits kind.Text) (repeated text count)
repeated_suits text (pos n) = limited_suits (repeat n text)
repeated_suits text (negsuc n) = tt

time_suits : (t : Option ℤ) → Passes (suits kind.Time) (time_from t)
time_suits (Some t) = refl
time_suits None = tt

told_suits : (k : Kind) (answer : ℤ → Result Scalar FaultKind) (args : List Scalar) → ((t : ℤ) → Passes (suits k) (answer t)) → Passes (suits k) (told answer args)
told_suits k answer args suit = bound k (time_at args 0) answer suit

truncated_suits : (t : ℤ) (unit : Span) → Passes (suits kind.Time) (truncated t unit)
truncated_suits t unit = elim (is_unit unit) as (λ b. Passes (suits kind.Time) (if b then time_from (moment (window_start unit (window_at unit t))) else Err BadWindow)) [
  | true ↦ time_suits (moment (window_start unit (window_at unit t)))
  | false ↦ tt
]

subtracted_suits : (t : ℤ) (span : Span) → Passes (suits kind.Time) (subtracted t span)
subtracted_suits t span =
    let back : Span = record { months = neg_ℤ span.months; nanos = neg_ℤ span.nanos } in
    elim (in_64_bits (neg_ℤ span.months) && in_64_bits (neg_ℤ span.nanos)) as (λ b. Passes (suits kind.Time) (if b then added t back else Err TimeRange)) [
      | true ↦ time_suits (span_after t back)
      | false ↦ tt
    ]

pub called_suits : (which : ScalarFn) (args : List Scalar) (span : Span) → Passes (suits (called_kind which)) (called which args span)
called_suits function.ContainsStr args span = tested_suits _ args
called_suits function.HasPrefix args span = tested_suits _ args
called_suits function.HasSuffix args span = tested_suits _ args
called_suits function.Strlen args span = bound kind.Int (text_at args 0) _ (λ text. refl)
called_suits function.Substring args span =
    bound kind.Text (text_at args 0) _ (λ text. bound kind.Text (int_at args 1) _ (λ from. bound kind.Text (int_at args 2) _ (λ to. substring_suits text from to)))
called_suits function.TrimPrefix args span = made_suits _ args
called_suits function.TrimSuffix args span = made_suits _ args
called_suits function.ReplaceAll args span =
    bound kind.Text (text_at args 0) _ (λ text. bound kind.Text (text_at args 1) _ (λ old. bound kind.Text (text_at args 2) _ (λ new. limited_suits (replaced text old new))))
called_suits function.JoinStr args span = bound kind.Text (texts_in args) _ (λ texts. limited_suits (joined texts))
called_suits function.Repeat args span = bound kind.Text (text_at args 0) _ (λ text. bound kind.Text (int_at args 1) _ (λ count. repeated_suits text count))
called_suits function.Year args span = told_suits kind.Int _ args (λ t. refl)
called_suits function.Month args span = told_suits kind.Int _ args (λ t. refl)
called_suits function.MonthDay args span = told_suits kind.Int _ args (λ t. refl)
called_suits function.YearDay args span = told_suits kind.Int _ args (λ t. refl)
called_suits function.WeekDay args span = told_suits kind.Int _ args (λ t. refl)
called_suits function.Hour args span = told_suits kind.Int _ args (λ t. refl)
called_suits function.Minute args span = told_suits kind.Int _ args (λ t. refl)
called_suits function.Second args span = told_suits kind.Int _ args (λ t. refl)
called_suits function.Nanosecond args span = told_suits kind.Int _ args (λ t. refl)
called_suits function.Truncate args span = told_suits kind.Time _ args (λ t. truncated_suits t span)
called_suits function.Add args span = told_suits kind.Time _ args (λ t. time_suits (span_after t span))
called_suits function.Sub args span = told_suits kind.Time _ args (λ t. subtracted_suits t span)

-- ---- conversions

small_mag : (n : ℤ) → IsTrue (in_64_bits n) → mag n < 2 ^ 63
small_mag (pos m) within = omega (arith, leb-true m (2 ^ 63 - 1) (and_parts (int_le (neg_ℤ (pos (2 ^ 63))) (pos m)) (int_le (pos m) (pos (2 ^ 63 - 1))) within).1)
small_mag (negsuc m) within = omega (arith, leb-true m (2 ^ 63 - 1) (and_parts (int_le (neg_ℤ (pos (2 ^ 63))) (negsuc m)) (int_le (negsuc m) (pos (2 ^ 63 - 1))) within).0)

-- an integer of 64 bits has at most 20 bytes
int_short : (n : ℤ) → IsTrue (in_64_bits n) → IsTrue (is_short (signed_decimal n))
int_short n within =
    let small = small_mag n within in
    le-leb (length (signed_decimal n)) 1_048_576 (omega (arith, length_signed_le 19 n (omega (arith, small)) small))

flag_suits : (n : ℤ) → Passes (suits kind.Bool) (flag n)
flag_suits n =
    elim (int_eq n (pos 1)) as (λ b. Passes (suits kind.Bool) (if b then Ok (scalar.Bool true) else (if int_eq n (pos 0) then Ok (scalar.Bool false) else Err BadConversion))) [
      | true ↦ refl
      | false ↦ elim (int_eq n (pos 0)) as (λ b. Passes (suits kind.Bool) (if b then Ok (scalar.Bool false) else Err BadConversion)) [ true ↦ refl | false ↦ tt ]
    ]

named_flag_suits : (text : List ℕ) → Passes (suits kind.Bool) (named_flag text)
named_flag_suits text =
    elim (same_text text (codes "true")) as (λ b. Passes (suits kind.Bool) (if b then Ok (scalar.Bool true) else (if same_text text (codes "false") then Ok (scalar.Bool false) else Err BadConversion))) [
      | true ↦ refl
      | false ↦ elim (same_text text (codes "false")) as (λ b. Passes (suits kind.Bool) (if b then Ok (scalar.Bool false) else Err BadConversion)) [ true ↦ refl | false ↦ tt ]
    ]

read_suits : (k : Kind) (made : ℤ → Scalar) (n : Option ℤ) → ((n : ℤ) → IsTrue (suits k (made n))) → Passes (suits k) (read made n)
read_suits k made (Some n) suit = suit n
read_suits k made None suit = tt

pub converted_suits : (to : Kind) (a : Scalar) → IsTrue (is_whole a) → Passes (suits to) (converted to a)
converted_suits kind.Bool scalar.Null whole = refl
converted_suits kind.Bool (scalar.Bool b) whole = refl
converted_suits kind.Bool (scalar.Int n) whole = flag_suits n
converted_suits kind.Bool (scalar.Text text) whole = named_flag_suits text
converted_suits kind.Bool (scalar.Time t) whole = refl
converted_suits kind.Int scalar.Null whole = refl
converted_suits kind.Int (scalar.Bool b) whole = refl
converted_suits kind.Int (scalar.Int n) whole = refl
converted_suits kind.Int (scalar.Text text) whole = read_suits kind.Int scalar.Int (int_value text) (λ n. refl)
converted_suits kind.Int (scalar.Time t) whole = refl
converted_suits kind.Text scalar.Null whole = refl
converted_suits kind.Text (scalar.Bool true) whole = refl
converted_suits kind.Text (scalar.Bool false) whole = refl
converted_suits kind.Text (scalar.Int n) whole = int_short n whole
converted_suits kind.Text (scalar.Text text) whole = limited_suits text
converted_suits kind.Text (scalar.Time t) whole = limited_suits (time_text t)
converted_suits kind.Time scalar.Null whole = refl
converted_suits kind.Time (scalar.Bool b) whole = refl
converted_suits kind.Time (scalar.Int n) whole = refl
converted_suits kind.Time (scalar.Text text) whole = read_suits kind.Time scalar.Time (time_value text) (λ t. refl)
converted_suits kind.Time (scalar.Time t) whole = refl
