use Rattle.std.proofs.Common.{◌≡◌, map, take}
use Rattle.fx_schemes.specs.Given.{texts_of}
use Rattle.fx_schemes.specs.Plan.{cells_of}
use Rattle.fx_schemes.proofs.shape.alike.Given as goal

abbrev pub invariant-loop-label : goal.invariant-loop-label
invariant-loop-label l = cells_of l.cells.items ≡ map (λ x. (x, l.cell)) (texts_of (take l.label-index l.labels))
