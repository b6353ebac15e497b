-- Rows of two streams that stand under one key.
use Rattle.std.specs.Prelude.{List, [], ◌∷◌, ◌++◌, map, Option, None, Some}
use Rattle.std.specs.FinMap.{FinMap, entries, from_entries}
use Rattle.std.specs.declared.cmp.Ordering.{Ordering}
use Rattle.std.specs.declared.cmp.Ordering.TheVariants.{Less, Greater}
use Rattle.fx_data.specs.Gathered.{rows_with}
use Rattle.fx_data.specs.Key.{key_cmp}
use Rattle.fx_data.specs.declared.key.Key.{Key}
use Rattle.fx_data.specs.declared.table.Table.{Table}
use Rattle.fx_group.specs.Answer.{Row}
use Rattle.fx_join.specs.declared.meeting.Meeting.{Meeting}

-- for each key of a table on either side, its rows on the left and its rows on the right
unfoldable pub met_under : List Table → List Table → FinMap key_cmp (List Row × List Row)
met_under lefts rights = from_entries (map (λ t. (t.key, (rows_with t.key lefts, rows_with t.key rights))) (lefts ++ rights))

abbrev pub meeting_of : Key × (List Row × List Row) → Meeting
meeting_of e = record { key = e.0; lefts = e.1.0; rights = e.1.1 }

-- in the order of the keys
abbrev pub meetings : List Table → List Table → List Meeting
meetings lefts rights = map meeting_of (entries (met_under lefts rights))

-- how the first keys of two lists stand to each other; where a list has ended, the other's is the lower one
abbrev pub lower : List Table → List Table → Option Ordering
lower [] [] = None
lower (l ∷ lefts) [] = Some Less
lower [] (r ∷ rights) = Some Greater
lower (l ∷ lefts) (r ∷ rights) = Some (key_cmp l.key r.key)
