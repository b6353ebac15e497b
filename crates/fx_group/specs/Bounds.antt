-- A range as the code keeps it.
use Rattle.std.specs.Prelude.{◌≡◌, ℤ, int_le, int_lt, Bool, false, ◌&&◌, List, [], ◌∷◌, map, Option, Some, codes}
use Rattle.std.specs.FinMap.{get}
use Rattle.std.specs.List.{filter}
use Rattle.fx_value.specs.declared.change.Change.TheVariants.{Set}
use Rattle.fx_value.specs.declared.scalar.Scalar.{Scalar}
use Rattle.fx_value.specs.declared.scalar.Scalar.TheVariants.{Time}
use Rattle.fx_data.specs.declared.table.Table.{Table}
use Rattle.fx_group.specs.Answer.{Row}
use Rattle.fx_group.specs.Range.{bounded, left_of}
use Rattle.fx_group.specs.declared.ranging.Bounds.{Bounds}

-- the engine's labels, and the changes that set the two times in a row
pub record AreBounds (b : Bounds) : Type 0 where
  pub time_label : b.time_label ≡ codes "_time"
  pub start_label : b.start_label ≡ codes "_start"
  pub stop_label : b.stop_label ≡ codes "_stop"
  pub changes : b.changes ≡ Set (codes "_start") (Time b.start) ∷ Set (codes "_stop") (Time b.stop) ∷ []

-- whether a value is a time that lies between
abbrev pub is_time_between : ℤ → ℤ → Option Scalar → Bool
is_time_between start stop (Some (Time t)) = int_le start t && int_lt t stop
is_time_between start stop value = false

abbrev pub lies_between : ℤ → ℤ → Row → Bool
lies_between start stop row = is_time_between start stop (get row (codes "_time"))

-- what is left of the table, with the bounds
abbrev pub table_left : ℤ → ℤ → Table → List Table
table_left start stop t = map (bounded start stop) (left_of t.key t.rows (filter (lies_between start stop) t.rows))
