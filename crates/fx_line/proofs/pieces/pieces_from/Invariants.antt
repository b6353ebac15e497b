use Rattle.std.proofs.Common.{◌≡◌, ◌++◌, drop}
use Rattle.fx_line.specs.Pieces.{pieces_from}
use Rattle.fx_line.proofs.pieces.pieces_from.Given as goal

abbrev pub invariant-loop-field : goal.invariant-loop-field
invariant-loop-field l = l.pieces ++ pieces_from l.piece (drop l.field-index l.fields) ≡ pieces_from l.fn.front l.fields
