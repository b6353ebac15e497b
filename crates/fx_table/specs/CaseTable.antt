-- A table of cases: rows by rising key, and the value under a key.
use Rattle.std.specs.Prelude.{Bool, true, ◌&&◌, List, [], ◌∷◌, Option, None, Some, if◌then◌else◌}
use Rattle.std.specs.declared.cmp.Ordering.{Ordering}
use Rattle.std.specs.Ordering.{is_lt, is_eq}

-- the row's key is below that of the first of the others
abbrev pub comes_before : {K V : Type 0} → (K → K → Ordering) → K × V → List (K × V) → Bool
comes_before cmp row [] = true
comes_before cmp row (next ∷ rest) = is_lt (cmp row.0 next.0)

-- each key is below the next
abbrev pub rises : {K V : Type 0} → (K → K → Ordering) → List (K × V) → Bool
rises cmp [] = true
rises cmp (row ∷ rest) = comes_before cmp row rest && rises cmp rest

-- the value of the first row whose key is equal, None where no key is
abbrev pub value_at : {K V : Type 0} → (K → K → Ordering) → K → List (K × V) → Option V
value_at cmp key [] = None
value_at cmp key (row ∷ rest) = if is_eq (cmp row.0 key) then Some row.1 else value_at cmp key rest
