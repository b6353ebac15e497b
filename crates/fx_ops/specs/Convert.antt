-- Conversions of scalars to a kind.
use Rattle.std.specs.Prelude.{◌≡◌, ◌≢◌, FitsSigned, slice_index, ◌&&◌, Bool, true, false, nat_lt, ℕ, List, codes, length, drop, if◌then◌else◌, Option, Some, None, Result, Ok, Err, ℤ, pos}
use Rattle.std.specs.Char.{digit_value}
use Rattle.std.specs.Int.{w64}
use Rattle.std.specs.List.{list_all}
use Rattle.std.specs.Ordering.{int_eq}
use Rattle.std.specs.Fmt.{signed_decimal}
use Rattle.std.specs.Str.Parse.{IsNumeral, starts_with_minus, signed_digits_value, without_leading_sign}
use Rattle.fx_base.specs.declared.fault.FaultKind.{FaultKind}
use Rattle.fx_base.specs.declared.fault.FaultKind.TheVariants.{BadConversion}
use Rattle.fx_base.specs.Text.{same_text}
use Rattle.fx_time.specs.Time.{time_text}
use Rattle.fx_time.specs.Value.{time_value}
use Rattle.fx_value.specs.declared.scalar.Kind.{Kind}
use Rattle.fx_value.specs.declared.scalar.Kind.TheVariants as kind
use Rattle.fx_value.specs.declared.scalar.Scalar.{Scalar}
use Rattle.fx_value.specs.declared.scalar.Scalar.TheVariants as scalar
use Rattle.fx_ops.specs.Limit.{limited}
use Rattle.fx_ops.specs.Whole.{in_64_bits}

-- a conversion to integers or texts takes any value, one to Booleans no time, and one to times no Boolean
abbrev pub is_convertible : Kind → Scalar → Bool
is_convertible kind.Bool (scalar.Time t) = false
is_convertible kind.Time (scalar.Bool b) = false
is_convertible _ _ = true

-- the text is digits, behind a `-` if it has a sign, and this is its value, in 64 bits
abbrev pub IsIntText : List ℕ → ℤ → Type 0
IsIntText text n =
    (slice_index text 0 ≢ 43) × IsNumeral 10 (without_leading_sign text) × FitsSigned w64 n × (n ≡ signed_digits_value 10 text)

-- one digit or more, and nothing else
abbrev pub is_numeral : List ℕ → Bool
is_numeral text = nat_lt 0 (length text) && list_all (λ byte. nat_lt (digit_value byte) 10) text

-- digits, behind a `-` if there is a sign
abbrev pub is_int_text : List ℕ → Bool
is_int_text text = is_numeral (if starts_with_minus text then drop 1 text else text)

-- the integer of a text as a function, None where it has none
abbrev pub int_value : List ℕ → Option ℤ
int_value text =
    if is_int_text text && in_64_bits (signed_digits_value 10 text) then Some (signed_digits_value 10 text) else None

-- the value that was read, and BadConversion where there is none
abbrev pub read : (ℤ → Scalar) → Option ℤ → Result Scalar FaultKind
read made (Some n) = Ok (made n)
read made None = Err BadConversion

-- 1 is true and 0 is false
abbrev pub flag : ℤ → Result Scalar FaultKind
flag n = if int_eq n (pos 1) then Ok (scalar.Bool true) else (if int_eq n (pos 0) then Ok (scalar.Bool false) else Err BadConversion)

abbrev pub named_flag : List ℕ → Result Scalar FaultKind
named_flag text =
    if same_text text (codes "true") then Ok (scalar.Bool true)
    else (if same_text text (codes "false") then Ok (scalar.Bool false) else Err BadConversion)

abbrev pub bool_text : Bool → List ℕ
bool_text b = if b then codes "true" else codes "false"

abbrev pub to_bool : Scalar → Result Scalar FaultKind
to_bool (scalar.Bool b) = Ok (scalar.Bool b)
to_bool (scalar.Int n) = flag n
to_bool (scalar.Text text) = named_flag text
to_bool _ = Ok scalar.Null

abbrev pub to_int : Scalar → Result Scalar FaultKind
to_int scalar.Null = Ok scalar.Null
to_int (scalar.Bool b) = Ok (scalar.Int (if b then pos 1 else pos 0))
to_int (scalar.Int n) = Ok (scalar.Int n)
to_int (scalar.Text text) = read scalar.Int (int_value text)
to_int (scalar.Time t) = Ok (scalar.Int t)

abbrev pub to_time : Scalar → Result Scalar FaultKind
to_time (scalar.Int n) = Ok (scalar.Time n)
to_time (scalar.Text text) = read scalar.Time (time_value text)
to_time (scalar.Time t) = Ok (scalar.Time t)
to_time _ = Ok scalar.Null

-- printed as in a table, without quotes
abbrev pub to_text : Scalar → Result Scalar FaultKind
to_text scalar.Null = Ok scalar.Null
to_text (scalar.Bool b) = Ok (scalar.Text (bool_text b))
to_text (scalar.Int n) = Ok (scalar.Text (signed_decimal n))
to_text (scalar.Text text) = limited text
to_text (scalar.Time t) = limited (time_text t)

-- the value of a conversion or its fault; null for null
abbrev pub converted : Kind → Scalar → Result Scalar FaultKind
converted kind.Bool a = to_bool a
converted kind.Int a = to_int a
converted kind.Text a = to_text a
converted kind.Time a = to_time a
