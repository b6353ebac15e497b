use Rattle.std.proofs.Common.{◌≡◌, ◌++◌, ℕ, ℤ, List, drop}
use Rattle.fx_line.specs.Pieces.{AreFilled}
use Rattle.fx_line.proofs.pieces.read_ints.Given as goal

abbrev pub invariant-loop-piece : goal.invariant-loop-piece
invariant-loop-piece l = (more : List ℤ) (end : List ℕ) → AreFilled (drop l.piece-index l.pieces) l.rest more end → AreFilled l.pieces l.line (l.values.items ++ more) end
