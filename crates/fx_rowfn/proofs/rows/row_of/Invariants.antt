use Rattle.std.proofs.Common.{◌≡◌, length, map}
use Rattle.std.specs.FinMap.{empty}
use Rattle.fx_meaning.specs.Rows.{row_from}
use Rattle.fx_values.specs.Shape.{slot, slots_of}
use Rattle.fx_rowfn.proofs.rows.row_of.Given as goal

abbrev pub invariant-loop-rest : goal.invariant-loop-rest
invariant-loop-rest l = row_from empty (slots_of (map slot l.fields)) ≡ row_from l.row (slots_of (map slot l.rest))

abbrev pub decreases-loop-rest : goal.decreases-loop-rest
decreases-loop-rest l = length l.rest
