use Rattle.std.proofs.lemmas.Bool.Decides.{Decides-eqb}
use Rattle.std.proofs.lemmas.Slice.Eq.{strip_prefix_is}
use Rattle.fx_line.proofs.PieceLaw.{some_of}
use Rattle.fx_line.proofs.pieces.behind.Goals as goal

pub returns : goal.returns
returns c = some_of _ _ c.strip_prefix.result (strip_prefix_is Decides-eqb c.args.bytes.now c.args.piece.now c.strip_prefix.result c.strip_prefix.ensures.cases)
