-- What the reader of spans gives.
use Rattle.std.specs.Prelude.{◌≡◌, ℕ, ◌+◌, ◌-◌, ◌*◌, ◌^◌, min, Bool, true, false, not, ◌++◌, Option}
use Rattle.fx_scan.specs.declared.units.Unit.{Unit}
use Rattle.fx_scan.specs.Forms.{Bytes, Pair, begins, is_digit, is_pair, number_of}
use Rattle.fx_scan.specs.Tables.{unit_of}

abbrev pub is_no_digit : ℕ → Bool
is_no_digit b = not (is_digit b)

-- the greatest number of 64 bits without a sign
abbrev pub most : ℕ
most = 2 ^ 64 - 1

-- the number, or the greatest where that is less
abbrev pub capped : ℕ → ℕ
capped n = min n most

-- the total with so many of a size added
abbrev pub raised : ℕ → ℕ → ℕ → ℕ
raised total number size = capped (total + capped (number * size))

-- where the text begins with a pair, and then with a digit or nothing, the three are the pair's and what stands after it
abbrev pub IsCutOf : Bytes → ℕ → Option Unit → Bytes → Type 0
IsCutOf text number unit after =
    (p : Pair) (rest : Bytes) → text ≡ p.0 ++ (p.1 ++ rest) → is_pair p ≡ true → begins is_no_digit rest ≡ false
    → (number ≡ capped (number_of p.0)) × (unit ≡ unit_of p.1) × (after ≡ rest)
