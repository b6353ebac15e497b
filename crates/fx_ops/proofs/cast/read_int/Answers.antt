use Rattle.fx_ops.proofs.IntTextLaws.{int_told}
use Rattle.fx_ops.proofs.cast.read_int.Goals as goal

pub returns : goal.returns
returns c = int_told c.args.text.now c.parsed.result c.parsed.ensures
