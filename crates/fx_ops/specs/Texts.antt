-- What the functions on texts give. Places in a text count its characters.
use Rattle.std.specs.Prelude.{ℕ, ◌-◌, ◌&&◌, ◌||◌, Bool, if◌then◌else◌, nat_eq, List, [], ◌∷◌, length, take, drop, Result, Err, ℤ, pos, negsuc, int_le, unsigned_abs}
use Rattle.std.specs.List.{starts_with, ends_with, join_by, repeat}
use Rattle.std.specs.Str.{chars, encode_utf8_all}
use Rattle.fx_base.specs.declared.fault.FaultKind.{FaultKind}
use Rattle.fx_base.specs.declared.fault.FaultKind.TheVariants.{IndexRange}
use Rattle.fx_value.specs.declared.scalar.Scalar.{Scalar}
use Rattle.fx_ops.specs.Limit.{limited}
use Rattle.fx_ops.specs.Parts.{parts}

-- the part stands somewhere in the text
abbrev pub occurs : List ℕ → List ℕ → Bool
occurs part [] = starts_with nat_eq [] part
occurs part (byte ∷ text) = starts_with nat_eq (byte ∷ text) part || occurs part text

-- the characters of the text from one place up to another
abbrev pub between : ℕ → ℕ → List ℕ → List ℕ
between from to text = encode_utf8_all (take (to - from) (drop from (chars text)))

-- the same, where 0 ≤ from ≤ to ≤ the number of characters
abbrev pub substring : List ℕ → ℤ → ℤ → Result Scalar FaultKind
substring text from to =
    if int_le (pos 0) from && int_le from to && int_le to (pos (length (chars text)))
    then limited (between (unsigned_abs from) (unsigned_abs to) text) else Err IndexRange

-- the text without what it begins or ends with
abbrev pub without_front : List ℕ → List ℕ → List ℕ
without_front front text = if starts_with nat_eq text front then drop (length front) text else text

abbrev pub without_back : List ℕ → List ℕ → List ℕ
without_back back text = if ends_with nat_eq text back then take (length text - length back) text else text

-- the new text in place of each old one
abbrev pub replaced : List ℕ → List ℕ → List ℕ → List ℕ
replaced text old new = join_by (λ part. part) new (parts old text)

-- the texts behind the first, with the first between them
abbrev pub joined : List (List ℕ) → List ℕ
joined [] = []
joined (by ∷ texts) = join_by (λ text. text) by texts

-- so many copies in a row
abbrev pub repeated : List ℕ → ℤ → Result Scalar FaultKind
repeated text (pos n) = limited (repeat n text)
repeated text (negsuc n) = Err IndexRange
