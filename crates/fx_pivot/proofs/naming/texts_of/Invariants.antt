use Rattle.std.proofs.Common.{◌≡◌, ◌++◌, map, drop}
use Rattle.fx_value.specs.Works.{into}
use Rattle.fx_pivot.specs.Cells.{texts_of}
use Rattle.fx_pivot.proofs.naming.texts_of.Given as goal

abbrev pub invariant-loop-label : goal.invariant-loop-label
invariant-loop-label l = texts_of l.labels l.row ≡ into ◌++◌ (map (λ text. text.now) l.texts.items) (texts_of (drop l.label-index l.labels) l.row)
