use Rattle.std.proofs.Common.{◌≡◌, ◌++◌, drop}
use Rattle.fx_schemes.specs.Given.{texts_of}
use Rattle.fx_schemes.specs.Plan.{cells_of, columns_from}
use Rattle.fx_schemes.proofs.shape.numbered.Given as goal

abbrev pub invariant-loop-label : goal.invariant-loop-label
invariant-loop-label l =
    cells_of l.cells.items ++ columns_from l.number (texts_of (drop l.label-index l.labels)) ≡ columns_from 1 (texts_of l.labels)
