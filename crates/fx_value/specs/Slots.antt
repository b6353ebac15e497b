-- Slots as entries of a map from labels to sources.
use Rattle.std.specs.Prelude.{◌≡◌, ℕ, ◌<◌, Bool, T, List, length, map, not, ◌||◌, Some, slice_index_or}
use Rattle.std.specs.List.{list_all, filter}
use Rattle.std.specs.FinMap.Entries.{find, is_sorted}
use Rattle.fx_base.specs.Text.{text_cmp, same_text}
use Rattle.fx_value.specs.declared.slot.Slot.{Slot}
use Rattle.fx_value.specs.declared.source.Source.{Source}

-- the label and the source of a slot
abbrev pub entry_of : Slot → List ℕ × Source
entry_of s = (s.label, s.source)

abbrev pub entries_of : List Slot → List (List ℕ × Source)
entries_of = map entry_of

-- the labels rise strictly by bytes
abbrev pub IsRising : List (List ℕ × Source) → Type 0
IsRising es = T (is_sorted text_cmp es)

-- the first slot with the label stands at this place
pub record IsFoundAt (slots : List Slot) (label : List ℕ) (i : ℕ) : Type 0 where
  pub within : i < length slots
  pub source : (d : Slot) → find text_cmp label (entries_of slots) ≡ Some (slice_index_or slots i d).source

abbrev pub labels_of : List Slot → List (List ℕ)
labels_of = map (λ s. s.label)

-- no slot with another label passes the test
abbrev pub is_alone : (Source → Bool) → List ℕ → List Slot → Bool
is_alone test label = list_all (λ s. not (test s.source) || same_text s.label label)

-- the slots with other labels
abbrev pub others : List ℕ → List Slot → List Slot
others label = filter (λ s. not (same_text s.label label))
