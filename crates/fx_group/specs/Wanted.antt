-- The labels of a row's new key, before it is known what the row has there.
use Rattle.std.specs.Prelude.{◌≡◌, ℕ, Bool, not, false, List, map, if◌then◌else◌}
use Rattle.std.specs.FinMap.{keys}
use Rattle.std.specs.List.{filter}
use Rattle.fx_value.specs.declared.scalar.Scalar.TheVariants.{Null}
use Rattle.fx_data.specs.declared.key.Key.{Key}
use Rattle.fx_data.specs.declared.key.KeyEntry.{KeyEntry}
use Rattle.fx_group.specs.Answer.{Row}
use Rattle.fx_group.specs.Group.{is_listed}
use Rattle.fx_group.specs.declared.grouping.Pattern.{Pattern}

-- the listed labels, or all but these
abbrev pub picks : List (List ℕ) → Bool → List ℕ → Bool
picks columns except label = if except then not (is_listed columns label) else is_listed columns label

abbrev pub wanted_entry : List ℕ → KeyEntry
wanted_entry label = record { label = label; value = Null; pinned = false }

-- the labels of the row that are picked, as a key
abbrev pub wanted_key : (List ℕ → Bool) → Row → Key
wanted_key picked row = record { entries = map wanted_entry (filter picked (keys row)) }

-- the key has the labels that are picked of each row with these labels
abbrev pub IsPattern : (List ℕ → Bool) → Pattern → Type 0
IsPattern picked p = p.key ≡ wanted_key picked p.row
