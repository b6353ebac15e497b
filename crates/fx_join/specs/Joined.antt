-- Joins of two streams.
use Rattle.std.specs.Prelude.{ℕ, List, ◌++◌, map}
use Rattle.fx_data.specs.Regrouped.{regrouped}
use Rattle.fx_data.specs.declared.keyed_row.KeyedRow.{KeyedRow}
use Rattle.fx_data.specs.declared.table.Table.{Table}
use Rattle.fx_group.specs.Answer.{Row, Meaning}
use Rattle.fx_group.specs.Turned.{Groups, with_rows}
use Rattle.fx_join.specs.Join.{line_row, no_marks, all_marked, left_over, lone_right, keyed, rows_of}
use Rattle.fx_join.specs.Meet.{meetings}
use Rattle.fx_join.specs.declared.line.Line.{Line}
use Rattle.fx_join.specs.declared.meeting.Meeting.{Meeting}
use Rattle.fx_join.specs.declared.side.Side.{Side}
use Rattle.fx_value.specs.Ends.{End, Gives, and_then, cut}
use Rattle.fx_value.specs.Works.{flat_each, into}

-- what becomes of the left rows under a key, one after another
abbrev pub lines_of : Meaning → Meaning → Side → List Row → List Row → ℕ → End (List Line)
lines_of on both side rights lefts limit = flat_each (line_row on both side rights limit) lefts

-- then the right rows that are partners of none of them
abbrev pub met_rows : Meaning → Meaning → Side → ℕ → Meeting → End (List KeyedRow)
met_rows on both side limit m =
    and_then (lines_of on both side m.rights m.lefts limit)
    (λ lines. and_then (flat_each (lone_right both limit) (left_over side (all_marked (no_marks m.rights) lines) m.rights))
    (λ alone. Gives (map (keyed m.key) (rows_of lines ++ alone)) 0))

-- key after key
abbrev pub all_met_rows : Meaning → Meaning → Side → List Meeting → ℕ → End (List KeyedRow)
all_met_rows on both side ms limit = flat_each (met_rows on both side limit) ms

-- `join.inner`, `join.left`, `join.right`, `join.full`: of the rows under each key all pairs, and what is left alone;
-- regrouped
unfoldable pub joined : Meaning → Meaning → Side → List Table → List Table → ℕ → End (List Table)
joined on both side lefts rights limit =
    cut limit (and_then (all_met_rows on both side (meetings lefts rights) limit) (λ rows. Gives (regrouped rows) 0))

-- the groups with what these meetings make
abbrev pub with_meetings : Meaning → Meaning → Side → Groups → List Meeting → ℕ → End Groups
with_meetings on both side groups ms limit = into with_rows groups (all_met_rows on both side ms limit)
