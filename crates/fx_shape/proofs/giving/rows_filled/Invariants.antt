use Rattle.std.proofs.Common.{◌≡◌, ◌++◌, map, take, drop}
use Rattle.fx_shape.specs.Content.{given}
use Rattle.fx_shape.specs.declared.giving.Content.TheVariants as content
use Rattle.fx_shape.proofs.giving.rows_filled.Given as goal

abbrev pub invariant-loop-row : goal.invariant-loop-row
invariant-loop-row l =
    l.row-items ≡ map (given (content.Default l.value) l.label) (take l.row-index l.initial.row-items) ++ drop l.row-index l.initial.row-items
