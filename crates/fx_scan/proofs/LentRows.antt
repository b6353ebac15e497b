-- A table whose texts are lent rises and answers as the table of those texts.
use Rattle.std.proofs.Common.{◌≡◌, ℕ, List, [], ◌∷◌, Some, refl, ap}
use Rattle.std.specs.Prelude.{◌&&◌, if◌then◌else◌}
use Rattle.std.specs.Borrow.{Bor}
use Rattle.std.specs.Ordering.{nat_cmp, is_eq, is_lt}
use Rattle.std.specs.Cmp.Lexicographic.{slice_cmp}
use Rattle.std.specs.declared.cmp.Ordering.{Ordering}
use Rattle.fx_table.specs.CaseTable.{rises, value_at}
use Rattle.fx_scan.specs.Tables.{texts}

abbrev pub lent_cmp : Bor (List ℕ) → Bor (List ℕ) → Ordering
lent_cmp a b = slice_cmp nat_cmp a.now b.now

pub rises_as_texts : {V : Type 0} (rows : List (Bor (List ℕ) × V)) → rises lent_cmp rows ≡ rises (slice_cmp nat_cmp) (texts rows)
rises_as_texts [] = refl
rises_as_texts (row ∷ []) = refl
rises_as_texts (row ∷ next ∷ rest) = ap (λ more. is_lt (lent_cmp row.0 next.0) && more) (rises_as_texts (next ∷ rest))

pub value_as_texts : {V : Type 0} (key : Bor (List ℕ)) (rows : List (Bor (List ℕ) × V)) → value_at lent_cmp key rows ≡ value_at (slice_cmp nat_cmp) key.now (texts rows)
value_as_texts key [] = refl
value_as_texts key (row ∷ rest) = ap (λ more. if is_eq (lent_cmp row.0 key) then Some row.1 else more) (value_as_texts key rest)
