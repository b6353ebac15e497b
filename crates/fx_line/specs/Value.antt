-- Values of fields and timestamps, as they are written.
use Rattle.std.specs.Prelude.{ℕ, ◌+◌, ◌-◌, ◌*◌, ◌^◌, ℤ, pos, neg_ℤ, int_le, Bool, true, false, ◌&&◌, ◌||◌, not, ◌==◌, nat_le, if◌then◌else◌, List, [], ◌∷◌, ◌++◌, codes}
use Rattle.std.specs.List.{list_all, list_any}
use Rattle.fx_base.specs.Text.{same_text}
use Rattle.fx_value.specs.declared.scalar.Scalar.{Scalar}
use Rattle.fx_value.specs.declared.scalar.Scalar.TheVariants as scalar
use Rattle.fx_line.specs.declared.word.Word.TheVariants as word
use Rattle.fx_line.specs.Word.{begins, front, back, said}

abbrev pub is_digit : ℕ → Bool
is_digit b = nat_le 48 b && nat_le b 57

-- one digit or more, and nothing else
abbrev pub is_digits : List ℕ → Bool
is_digits [] = false
is_digits (b ∷ rest) = is_digit b && list_all is_digit rest

-- a sign at the front taken off
abbrev pub without_minus : List ℕ → List ℕ
without_minus [] = []
without_minus (b ∷ rest) = if b == 45 then rest else b ∷ rest

abbrev pub without_sign : List ℕ → List ℕ
without_sign [] = []
without_sign (b ∷ rest) = if b == 45 || b == 43 then rest else b ∷ rest

-- what stands behind the digits that the bytes begin with
abbrev pub behind_digits : List ℕ → List ℕ
behind_digits [] = []
behind_digits (b ∷ rest) = if is_digit b then behind_digits rest else b ∷ rest

-- one digit or more, and then this byte
abbrev pub is_count : ℕ → List ℕ → Bool
is_count last bytes = begins is_digit bytes && same_text (behind_digits bytes) (last ∷ [])

-- an integer is digits and `i`, with a `-` before them or without
abbrev pub is_integer : List ℕ → Bool
is_integer v = is_count 105 (without_minus v)

-- an unsigned integer is digits and `u`
abbrev pub is_unsigned : List ℕ → Bool
is_unsigned v = is_count 117 v

-- a float is digits, with a sign before them or without, perhaps a point with digits or none behind it, perhaps an exponent
abbrev pub behind_point : List ℕ → List ℕ
behind_point [] = []
behind_point (b ∷ rest) = if b == 46 then behind_digits rest else b ∷ rest

abbrev pub is_exponent : List ℕ → Bool
is_exponent [] = true
is_exponent (b ∷ rest) = (b == 101 || b == 69) && is_digits (without_sign rest)

abbrev pub is_float : List ℕ → Bool
is_float v = begins is_digit (without_sign v) && is_exponent (behind_point (behind_digits (without_sign v)))

-- the words for true and for false
abbrev pub is_true : List ℕ → Bool
is_true v = same_text v (codes "t") || (same_text v (codes "T") || (same_text v (codes "true") || (same_text v (codes "True") || same_text v (codes "TRUE"))))

abbrev pub is_false : List ℕ → Bool
is_false v = same_text v (codes "f") || (same_text v (codes "F") || (same_text v (codes "false") || (same_text v (codes "False") || same_text v (codes "FALSE"))))

-- a text stands between quotes: the first quote behind the opening one that has force is the last byte
abbrev pub is_text : List ℕ → Bool
is_text [] = false
is_text (b ∷ rest) = b == 34 && same_text (back word.Quoted false rest) (34 ∷ [])

-- a byte of a value that is no text
abbrev pub is_bare : ℕ → Bool
is_bare b = not (b == 44 || (b == 32 || b == 34))

-- a value is a text, or a run of other bytes than comma, space and quote that is of another kind
abbrev pub is_value : List ℕ → Bool
is_value v = is_text v || (list_all is_bare v && (is_integer v || (is_unsigned v || (is_float v || (is_true v || is_false v)))))

-- a timestamp is digits, with a `-` before them or without
abbrev pub is_stamp : List ℕ → Bool
is_stamp t = is_digits (without_minus t)

-- what the digits say that the bytes begin with, however many they are, behind those that said n
abbrev pub natural : ℕ → List ℕ → ℕ
natural n [] = n
natural n (b ∷ rest) = if is_digit b then natural (10 * n + (b - 48)) rest else n

abbrev pub signed : List ℕ → ℕ → ℤ
signed v n = if begins (λ b. b == 45) v then neg_ℤ (pos n) else pos n

-- the exact value of an integer
abbrev pub integer_of : List ℕ → ℤ
integer_of v = signed v (natural 0 (without_minus v))

abbrev pub is_between : ℤ → ℤ → ℤ → Bool
is_between low high n = int_le low n && int_le n high

-- a value of 64 bits with a sign
abbrev pub is_int : ℤ → Bool
is_int = is_between (neg_ℤ (pos (2 ^ 63))) (pos (2 ^ 63 - 1))

-- what stands between the quotes of a text, and what it says
abbrev pub inside : List ℕ → List ℕ
inside [] = []
inside (b ∷ rest) = front word.Quoted false rest

abbrev pub text_of : List ℕ → List ℕ
text_of v = said word.Quoted false (inside v)

-- the value of a text, an integer or a Boolean
abbrev pub scalar_of : List ℕ → Scalar
scalar_of v =
    if is_text v then scalar.Text (text_of v) else
    if is_integer v then scalar.Int (integer_of v) else scalar.Bool (is_true v)
