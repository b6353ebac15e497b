use Rattle.std.proofs.Common.{map}
use Rattle.fx_meaning.specs.Forms.{cell_of}
use Rattle.fx_values.specs.Shape.{slot, slots_of}
use Rattle.fx_values.proofs.EachLaws.{Made}
use Rattle.fx_values.proofs.scalars.cells_of.Given as goal

abbrev pub invariant-loop-label : goal.invariant-loop-label
invariant-loop-label l = Made (λ x. cell_of x.now (slots_of (map slot l.args))) l.labels l.label-index l.cells
