-- What a join has made so far.
use Rattle.std.specs.Prelude.{ℕ, Bool, false, List, ◌++◌, map, filter_map, Option, slice_index_or}
use Rattle.std.specs.Option.{is_some}
use Rattle.fx_data.specs.declared.key.Key.{Key}
use Rattle.fx_group.specs.Answer.{Row}
use Rattle.fx_group.specs.Turned.{Groups, with_rows}
use Rattle.fx_join.specs.Join.{keyed, rows_of, all_marked}
use Rattle.fx_join.specs.declared.joining.Part.{Part}
use Rattle.fx_join.specs.declared.line.Line.{Line}

-- a line with what more pairs give
abbrev pub with_found : Line → List (Option Row) → Line
with_found x found = record { rows = x.rows ++ filter_map (λ o. o) found; hits = x.hits ++ map is_some found }

-- groups with rows under a key
abbrev pub with_keyed : Key → Groups → List Row → Groups
with_keyed key groups rows = with_rows groups (map (keyed key) rows)

-- what was made, with more lines
abbrev pub with_lines : Key → Part → List Line → Part
with_lines key part lines = record { runs = with_keyed key part.runs (rows_of lines); marks = all_marked part.marks lines }

-- the mark of a right row by its place; without one it is none
abbrev pub hit_at : List Bool → ℕ → Bool
hit_at hits i = slice_index_or hits i false
