-- Rows that share their labels.
use Rattle.std.specs.Prelude.{◌≡◌, ℕ, List, map, Option, None, Some}
use Rattle.std.specs.List.{filter_map}
use Rattle.std.specs.FinMap.{FinMap, entries, from_sorted, get}
use Rattle.fx_base.specs.Text.{text_cmp}
use Rattle.fx_value.specs.declared.scalar.Scalar.{Scalar}
use Rattle.fx_value.specs.declared.source.Source.{Source}
use Rattle.fx_value.specs.declared.source.Source.TheVariants.{Fixed, First, Second}
use Rattle.fx_value.specs.Source.{value_at}

-- each label with the value of its source
abbrev pub filled : Scalar → Scalar → List (List ℕ × Source) → List (List ℕ × Scalar)
filled first second = map (λ e. (e.0, value_at first second e.1))

-- the map with the labels of the head, and at each label the value of its source
unfoldable pub row_of : FinMap text_cmp Source → Scalar → Scalar → FinMap text_cmp Scalar
row_of head first second = from_sorted (filled first second (entries head))

-- the label has this source in the head, and no other label has it
pub record IsOnly (head : FinMap text_cmp Source) (label : List ℕ) (source : Source) : Type 0 where
  pub has : get head label ≡ Some source
  pub only : (other : List ℕ) → get head other ≡ Some source → other ≡ label

-- a label with the value that all rows share, None where each row has its own
abbrev pub shared_cell : List ℕ × Source → Option (List ℕ × Scalar)
shared_cell (label, Fixed value) = Some (label, value)
shared_cell (label, First) = None
shared_cell (label, Second) = None

-- the labels whose value all rows share, with that value, rising by bytes
abbrev pub shared : FinMap text_cmp Source → List (List ℕ × Scalar)
shared head = filter_map shared_cell (entries head)
