-- The parts of a text between the separators in it.
use Rattle.std.specs.Prelude.{ℕ, zero, suc, ◌-◌, ◌==◌, if◌then◌else◌, nat_eq, List, [], ◌∷◌, length, Result, Ok, Err}
use Rattle.std.specs.List.{starts_with, list_all}
use Rattle.fx_base.specs.declared.fault.FaultKind.{FaultKind}
use Rattle.fx_base.specs.declared.fault.FaultKind.TheVariants.{TooLarge}
use Rattle.fx_ops.specs.Limit.{is_short}

-- a byte more at the front of the first part
abbrev pub in_first : ℕ → List (List ℕ) → List (List ℕ)
in_first byte [] = []
in_first byte (part ∷ parts) = (byte ∷ part) ∷ parts

-- the parts of what follows, where so many bytes of a separator are passed first. A separator is taken where one stands,
-- the next one behind it
unfoldable pub parts_past : List ℕ → ℕ → List ℕ → List (List ℕ)
parts_past by n [] = [] ∷ []
parts_past by (suc n) (byte ∷ rest) = parts_past by n rest
parts_past by zero (byte ∷ rest) =
    if starts_with nat_eq (byte ∷ rest) by then [] ∷ parts_past by (length by - 1) rest
    else in_first byte (parts_past by zero rest)

-- the parts of a text between the separators from the left; one part where the separator is empty
abbrev pub parts : List ℕ → List ℕ → List (List ℕ)
parts by text = if length by == 0 then text ∷ [] else parts_past by 0 text

-- the texts, where none is too long
abbrev pub all_limited : List (List ℕ) → Result (List (List ℕ)) FaultKind
all_limited texts = if list_all is_short texts then Ok texts else Err TooLarge
