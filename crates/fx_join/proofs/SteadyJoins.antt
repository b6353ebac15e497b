-- Whole joins have one end under each limit that suffices, where their row functions do.
use Rattle.std.proofs.Common.{List, ◌++◌, map}
use Rattle.fx_data.specs.declared.key.Key.{Key}
use Rattle.fx_data.specs.declared.keyed_row.KeyedRow.{KeyedRow}
use Rattle.fx_group.specs.Answer.{Row, Meaning}
use Rattle.fx_group.specs.Turned.{Groups, with_rows}
use Rattle.fx_join.specs.Join.{line_row, no_marks, all_marked, left_over, lone_right, keyed, rows_of}
use Rattle.fx_join.specs.Joined.{lines_of, met_rows, all_met_rows, with_meetings}
use Rattle.fx_join.specs.Part.{with_keyed, with_lines}
use Rattle.fx_join.specs.declared.joining.Part.{Part}
use Rattle.fx_join.specs.declared.line.Line.{Line}
use Rattle.fx_join.specs.declared.meeting.Meeting.{Meeting}
use Rattle.fx_join.specs.declared.side.Side.{Side}
use Rattle.fx_join.proofs.Steady.{steady_line_row, steady_lone_right}
use Rattle.fx_value.specs.Ends.{Gives, and_then, IsLimited}
use Rattle.fx_value.specs.Works.{flat_each, into, IsSteady}
use Rattle.fx_value.proofs.Ends.{steady_same, steady_then, steady_each, steady_into}

module _ (both : Meaning) (both_limited : (rows : List Row) → IsLimited (both rows)) where
  pub steady_lone_rights : (rights : List Row) → IsSteady (λ n. flat_each (lone_right both n) rights)
  steady_lone_rights rights = steady_each (lone_right both) (steady_lone_right both both_limited) rights

  pub steady_rights : (key : Key) (groups : Groups) (rights : List Row) → IsSteady (λ n. into (with_keyed key) groups (flat_each (lone_right both n) rights))
  steady_rights key groups rights = steady_into (with_keyed key) groups (λ n. flat_each (lone_right both n) rights) (steady_lone_rights rights)

module _ (on : Meaning) (on_limited : (rows : List Row) → IsLimited (on rows)) (both : Meaning) (both_limited : (rows : List Row) → IsLimited (both rows)) (side : Side) where
  steady_lines : (rights lefts : List Row) → IsSteady (lines_of on both side rights lefts)
  steady_lines rights lefts = steady_each (line_row on both side rights) (steady_line_row on on_limited both both_limited side rights) lefts

  pub steady_part : (key : Key) (part : Part) (rights lefts : List Row) → IsSteady (λ n. into (with_lines key) part (lines_of on both side rights lefts n))
  steady_part key part rights lefts = steady_into (with_lines key) part (lines_of on both side rights lefts) (steady_lines rights lefts)

  abbrev alone_of : Meeting → List Line → List Row
  alone_of m lines = left_over side (all_marked (no_marks m.rights) lines) m.rights

  pub steady_met_rows : (m : Meeting) → IsSteady (λ n. met_rows on both side n m)
  steady_met_rows m =
      steady_then (lines_of on both side m.rights m.lefts)
      (λ lines n. and_then (flat_each (lone_right both n) (alone_of m lines)) (λ alone. Gives (map (keyed m.key) (rows_of lines ++ alone)) 0))
      (steady_lines m.rights m.lefts)
      (λ lines. steady_then (λ n. flat_each (lone_right both n) (alone_of m lines)) (λ alone n. Gives (map (keyed m.key) (rows_of lines ++ alone)) 0)
      (steady_lone_rights both both_limited (alone_of m lines)) (λ alone. steady_same {A = List KeyedRow} (Gives (map (keyed m.key) (rows_of lines ++ alone)) 0)))

  pub steady_meeting : (groups : Groups) (m : Meeting) → IsSteady (λ n. into with_rows groups (met_rows on both side n m))
  steady_meeting groups m = steady_into with_rows groups (λ n. met_rows on both side n m) (steady_met_rows m)

  pub steady_all : (ms : List Meeting) → IsSteady (all_met_rows on both side ms)
  steady_all ms = steady_each (met_rows on both side) steady_met_rows ms

  pub steady_meetings : (groups : Groups) (ms : List Meeting) → IsSteady (with_meetings on both side groups ms)
  steady_meetings groups ms = steady_into with_rows groups (all_met_rows on both side ms) (steady_all ms)
