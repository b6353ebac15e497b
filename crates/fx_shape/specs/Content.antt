-- What the code puts into a column.
use Rattle.std.specs.Prelude.{if◌then◌else◌}
use Rattle.std.specs.FinMap.{get, insert}
use Rattle.fx_group.specs.Answer.{Row}
use Rattle.fx_shape.specs.Columns.{Label, is_missing}
use Rattle.fx_shape.specs.declared.giving.Content.{Content}
use Rattle.fx_shape.specs.declared.giving.Content.TheVariants as content

-- the row with this content in the column
abbrev pub given : Content → Label → Row → Row
given (content.Value value) label row = insert row label value
given (content.Default value) label row = if is_missing (get row label) then insert row label value else row
