-- A part of rows as the code keeps it.
use Rattle.std.specs.Prelude.{List}
use Rattle.fx_group.specs.Answer.{Row}
use Rattle.fx_shape.specs.Part.{first_part, last_part}
use Rattle.fx_shape.specs.declared.part.Part.{Part}
use Rattle.fx_shape.specs.declared.part.Part.TheVariants as part

abbrev pub cut : Part → List Row → List Row
cut (part.First count offset) rows = first_part count offset rows
cut (part.Last count offset) rows = last_part count offset rows
