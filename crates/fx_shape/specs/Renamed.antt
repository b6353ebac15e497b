-- Tables on their way to their new names.
use Rattle.std.specs.Prelude.{Bool, true, false, not, ◌&&◌, ◌||◌, List, [], ◌∷◌, ◌++◌, map, if◌then◌else◌}
use Rattle.std.specs.List.{filter, flat_map}
use Rattle.std.specs.FinMap.{empty}
use Rattle.fx_data.specs.Regrouped.{all_joined, alone, bare, joined}
use Rattle.fx_data.specs.declared.key.Key.{Key}
use Rattle.fx_data.specs.declared.table.Table.{Table}
use Rattle.fx_group.specs.Answer.{Row}
use Rattle.fx_group.specs.Turned.{Groups, with_rows}
use Rattle.fx_shape.specs.Changed.{is_bare, rows_after}
use Rattle.fx_shape.specs.Columns.{Label}
use Rattle.fx_shape.specs.Run.{has_label}

-- where the new name stands in the renamed key, the old one stood in the key
abbrev pub is_fixed : Key → Key → Label → Label → Bool
is_fixed key renamed old new = not (has_label renamed new) || has_label key old

-- so it is for all names
abbrev pub fixes_key : List Label → List Label → Key → Key → Bool
fixes_key [] news key renamed = true
fixes_key (old ∷ olds) [] key renamed = false
fixes_key (old ∷ olds) (new ∷ news) key renamed = is_fixed key renamed old new && fixes_key olds news key renamed

module _ (key : Key → Key) (row : Row → Row) where
  -- one table more
  abbrev pub table_moved : Groups → Table → Groups
  table_moved groups t = if is_bare t then joined groups (bare (key t.key)) else with_rows groups (rows_after key row t)

  -- all that tables add, those without rows behind the others
  abbrev pub all_moved_to : Groups → List Table → Groups
  all_moved_to groups tables = all_joined groups (map alone (flat_map (rows_after key row) tables) ++ map bare (map (λ t. key t.key) (filter is_bare tables)))

  abbrev pub tables_moved : List Table → Groups
  tables_moved = all_moved_to empty
