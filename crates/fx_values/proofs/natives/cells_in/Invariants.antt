use Rattle.fx_meaning.specs.Forms.{cell_in}
use Rattle.fx_values.specs.Shape.{val}
use Rattle.fx_values.proofs.EachLaws.{Made}
use Rattle.fx_values.proofs.natives.cells_in.Given as goal

abbrev pub invariant-loop-item : goal.invariant-loop-item
invariant-loop-item l = Made (λ v. cell_in (val v)) l.items l.item-index l.cells
