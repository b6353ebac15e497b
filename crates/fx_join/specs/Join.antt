-- Pairs of rows of two streams.
use Rattle.std.specs.Prelude.{ℕ, Bool, true, false, not, ◌&&◌, ◌||◌, List, [], ◌∷◌, ◌++◌, map, filter_map, Option, None, Some, if◌then◌else◌}
use Rattle.std.specs.Option.{is_some}
use Rattle.std.specs.FinMap as fin
use Rattle.std.specs.List.{flat_map, list_any}
use Rattle.fx_data.specs.declared.key.Key.{Key}
use Rattle.fx_data.specs.declared.keyed_row.KeyedRow.{KeyedRow}
use Rattle.fx_group.specs.Answer.{Row, Meaning, truth_of, line_of}
use Rattle.fx_join.specs.declared.line.Line.{Line}
use Rattle.fx_join.specs.declared.side.Side.{Side}
use Rattle.fx_join.specs.declared.side.Side.TheVariants.{Inner, Left, Right, Full}
use Rattle.fx_value.specs.Ends.{End, Gives, and_then}
use Rattle.fx_value.specs.Works.{flat_each}

-- whether left rows without a partner are kept
abbrev pub keeps_left : Side → Bool
keeps_left Inner = false
keeps_left Left = true
keeps_left Right = false
keeps_left Full = true

-- whether right rows without a partner are kept
abbrev pub keeps_right : Side → Bool
keeps_right Inner = false
keeps_right Left = false
keeps_right Right = true
keeps_right Full = true

-- whether `on` says yes of the pair
abbrev pub matched : Meaning → ℕ → Row → Row → End Bool
matched on limit l r = and_then (on (l ∷ r ∷ []) limit) truth_of

-- the row that `as` makes of the pair
abbrev pub made : Meaning → ℕ → Row → Row → End Row
made both limit l r = and_then (both (l ∷ r ∷ []) limit) line_of

-- the row of a pair that matches, and none of another
abbrev pub made_if : Meaning → ℕ → Row → Row → Bool → End (Option Row)
made_if both limit l r true = and_then (made both limit l r) (λ row. Gives (Some row) 0)
made_if both limit l r false = Gives None 0

abbrev pub paired : Meaning → Meaning → ℕ → Row → Row → End (Option Row)
paired on both limit l r = and_then (matched on limit l r) (made_if both limit l r)

-- a left row with each right row in their order
abbrev pub found_row : Meaning → Meaning → Row → ℕ → Row → End (List (Option Row))
found_row on both l limit r = and_then (paired on both limit l r) (λ found. Gives (found ∷ []) 0)

-- the rows of what was found, and for each right row whether it is a partner
abbrev pub line_with : List (Option Row) → Line
line_with found = record { rows = filter_map (λ o. o) found; hits = map is_some found }

abbrev pub found_line : Meaning → Meaning → List Row → Row → ℕ → End Line
found_line on both rights l limit = and_then (flat_each (found_row on both l limit) rights) (λ found. Gives (line_with found) 0)

-- whether a left row is kept though it has no partner
abbrev pub is_lone : Side → Line → Bool
is_lone side x = keeps_left side && not (list_any (λ hit. hit) x.hits)

-- the line with one row more, if there is one
abbrev pub longer : Line → Option Row → Line
longer x row = record { rows = x.rows ++ filter_map (λ o. o) (row ∷ []); hits = x.hits }

-- a left row without a partner, where it is kept, gives the row that is made of it and an empty right row
abbrev pub lone_left : Meaning → Side → Row → ℕ → Line → End Line
lone_left both side l limit x = and_then (made_if both limit l fin.empty (is_lone side x)) (λ row. Gives (longer x row) 0)

-- what becomes of a left row
abbrev pub line_of_left : Meaning → Meaning → Side → List Row → Row → ℕ → End Line
line_of_left on both side rights l limit = and_then (found_line on both rights l limit) (lone_left both side l limit)

abbrev pub line_row : Meaning → Meaning → Side → List Row → ℕ → Row → End (List Line)
line_row on both side rights limit l = and_then (line_of_left on both side rights l limit) (λ x. Gives (x ∷ []) 0)

-- the marks of right rows, with those of one more line
abbrev pub marked : List Bool → List Bool → List Bool
marked [] hits = []
marked (mark ∷ marks) [] = mark ∷ marked marks []
marked (mark ∷ marks) (hit ∷ hits) = (mark || hit) ∷ marked marks hits

-- line after line
abbrev pub all_marked : List Bool → List Line → List Bool
all_marked marks [] = marks
all_marked marks (x ∷ xs) = all_marked (marked marks x.hits) xs

-- no right row is a partner yet
abbrev pub no_marks : List Row → List Bool
no_marks rights = map (λ r. false) rights

-- the right rows that are partners of no left row
abbrev pub unmarked : List Bool → List Row → List Row
unmarked marks [] = []
unmarked [] (r ∷ rights) = r ∷ unmarked [] rights
unmarked (mark ∷ marks) (r ∷ rights) = if mark then unmarked marks rights else r ∷ unmarked marks rights

-- those of them that are kept
abbrev pub left_over : Side → List Bool → List Row → List Row
left_over side marks rights = if keeps_right side then unmarked marks rights else []

-- a right row without a partner gives the row that is made with an empty left row
abbrev pub lone_right : Meaning → ℕ → Row → End (List Row)
lone_right both limit r = and_then (made both limit fin.empty r) (λ row. Gives (row ∷ []) 0)

abbrev pub keyed : Key → Row → KeyedRow
keyed key row = record { key = key; row = row }

abbrev pub rows_of : List Line → List Row
rows_of lines = flat_map (λ x. x.rows) lines
