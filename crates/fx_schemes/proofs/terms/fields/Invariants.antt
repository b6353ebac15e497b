use Rattle.std.proofs.Common.{◌≡◌, map, take}
use Rattle.fx_types.specs.Shape.{entry_term}
use Rattle.fx_schemes.specs.Plan.{entry_of, cells_of}
use Rattle.fx_schemes.proofs.terms.fields.Given as goal

abbrev pub invariant-loop-cell : goal.invariant-loop-cell
invariant-loop-cell l = map entry_term l.fields ≡ map entry_of (cells_of (take l.cell-index l.cells))
