-- Changes of labels in all rows of a table.
use Rattle.std.specs.Prelude.{◌≡◌, ℕ, List, [], ◌∷◌}
use Rattle.std.specs.FinMap.{FinMap, insert, remove}
use Rattle.fx_base.specs.Text.{text_cmp}
use Rattle.fx_value.specs.declared.change.Change.{Change}
use Rattle.fx_value.specs.declared.change.Change.TheVariants.{Set, Remove}
use Rattle.fx_value.specs.declared.change.Reshape.{Reshape}
use Rattle.fx_value.specs.declared.scalar.Scalar.{Scalar}
use Rattle.fx_value.specs.declared.source.Source.{Source}
use Rattle.fx_value.specs.declared.source.Source.TheVariants.{Fixed}

-- the row after the change
abbrev pub changed : Change → FinMap text_cmp Scalar → FinMap text_cmp Scalar
changed (Set label value) row = insert row label value
changed (Remove label) row = remove row label

-- the row after the changes, one after another
abbrev pub all_changed : List Change → FinMap text_cmp Scalar → FinMap text_cmp Scalar
all_changed [] row = row
all_changed (change ∷ changes) row = all_changed changes (changed change row)

-- the head of the rows after the change
abbrev pub changed_head : Change → FinMap text_cmp Source → FinMap text_cmp Source
changed_head (Set label value) head = insert head label (Fixed value)
changed_head (Remove label) head = remove head label

abbrev pub all_changed_head : List Change → FinMap text_cmp Source → FinMap text_cmp Source
all_changed_head [] head = head
all_changed_head (change ∷ changes) head = all_changed_head changes (changed_head change head)

abbrev pub label_of : Change → List ℕ
label_of (Set label value) = label
label_of (Remove label) = label

-- the map without the labels of the changes
abbrev pub all_left_out : List Change → FinMap text_cmp Source → FinMap text_cmp Source
all_left_out [] head = head
all_left_out (change ∷ changes) head = all_left_out changes (remove head (label_of change))

-- one head is what the changes make of the other
abbrev pub IsReshape : List Change → Reshape → Type 0
IsReshape changes known = known.to.value ≡ all_changed_head changes known.from.value
