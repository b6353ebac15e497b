-- What becomes of labels, as the code tells it.
use Rattle.std.specs.Prelude.{Bool, not}
use Rattle.fx_group.specs.Group.{is_listed}
use Rattle.fx_shape.specs.Columns.{Label}
use Rattle.fx_shape.specs.Rename.{is_covered, new_name}
use Rattle.fx_shape.specs.declared.naming.Naming.{Naming}
use Rattle.fx_shape.specs.declared.naming.Naming.TheVariants as naming

abbrev pub stays : Naming → Label → Bool
stays (naming.Listed columns) label = is_listed columns.now label
stays (naming.Others columns) label = not (is_listed columns.now label)
stays (naming.Renamed olds news) label = not (is_covered olds.now news.now label)

abbrev pub name : Naming → Label → Label
name (naming.Listed columns) label = label
name (naming.Others columns) label = label
name (naming.Renamed olds news) label = new_name olds.now news.now label

-- no label gets another name
abbrev pub IsPlain : Naming → Type 0
IsPlain (naming.Listed columns) = Unit {0}
IsPlain (naming.Others columns) = Unit {0}
IsPlain (naming.Renamed olds news) = ⊥
