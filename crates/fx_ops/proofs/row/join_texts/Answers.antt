use Rattle.std.specs.List.{concat}
use Rattle.fx_ops.proofs.KindLaws.{limited_told}
use Rattle.fx_ops.proofs.row.join_texts.Goals as goal

pub returns-clause-range : goal.returns-clause-range
returns-clause-range c = limited_told (concat c.as_slice.result.now) c.in_one.result c.in_one.ensures
