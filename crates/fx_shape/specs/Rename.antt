-- Columns that get other names.
use Rattle.std.specs.Prelude.{Bool, not, ◌&&◌, ◌||◌, List, ◌∷◌, fold, if◌then◌else◌}
use Rattle.std.specs.List.{filter}
use Rattle.fx_base.specs.Text.{same_text}
use Rattle.fx_data.specs.Columns.{key_with}
use Rattle.fx_data.specs.declared.key.Key.{Key}
use Rattle.fx_data.specs.declared.key.KeyEntry.{KeyEntry}
use Rattle.fx_data.specs.declared.table.Table.{Table}
use Rattle.fx_group.specs.Answer.{Row}
use Rattle.fx_group.specs.Group.{is_listed}
use Rattle.fx_shape.specs.Changed.{all_moved}
use Rattle.fx_shape.specs.Columns.{Label}
use Rattle.fx_shape.specs.Relabelled.{relabelled}

-- the new name of a label, which is the label itself where it is no old one
abbrev pub new_name : List Label → List Label → Label → Label
new_name (old ∷ olds) (new ∷ news) label = if same_text label old then new else new_name olds news label
new_name _ _ label = label

-- a new name that is no old one: what stands under it goes
abbrev pub is_covered : List Label → List Label → Label → Bool
is_covered olds news label = is_listed news label && not (is_listed olds label)

abbrev pub pinned_key : Key → Key
pinned_key key = record { entries = filter (λ e. e.pinned) key.entries }

module _ (olds news : List Label) where
  abbrev pub row_renamed : Row → Row
  row_renamed = relabelled (λ label. not (is_covered olds news label)) (new_name olds news)

  abbrev pub entry_renamed : Key → KeyEntry → Key
  entry_renamed out e = if e.pinned || is_covered olds news e.label then out else key_with out (new_name olds news e.label) e.value

  -- pinned entries stay as they are, but where a column gets the name of one
  abbrev pub key_renamed : Key → Key
  key_renamed key = fold entry_renamed (pinned_key key) key.entries

  -- `rename`: all old columns get their new names at once
  unfoldable pub columns_renamed : List Table → List Table
  columns_renamed = all_moved key_renamed row_renamed
