use Rattle.std.proofs.Common.{◌≡◌, [], ◌∷◌, ◌++◌, map}
use Rattle.fx_csv.specs.Printed.{column_labels}
use Rattle.fx_csv.specs.Shapes.{column_of}
use Rattle.fx_csv.proofs.column.columns_of.Given as goal

abbrev pub invariant-loop-name : goal.invariant-loop-name
invariant-loop-name l =
    l.columns.items ++ map (column_of l.table (l.table ∷ [])) l.name-iterator
    ≡ map (column_of l.table (l.table ∷ [])) (column_labels l.table)
