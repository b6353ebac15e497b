use Rattle.fx_series.proofs.BlockPlaces.{halves}
use Rattle.fx_series.proofs.blocks.cut.Goals as goal

pub returns-clause-ok : goal.returns-clause-ok
returns-clause-ok c =
    halves c.args.blocks.now.items c.reserve.new.self.items c.insert.new.self.items c.args.place c.index_mut.result.now c.halve.new.self c.in_ok-right.right c.requires.within
    c.in_ok-reserve.ensures.items c.index_mut.ensures.value c.requires.full c.in_ok-right.ensures.ok.0 c.in_ok-right.ensures.ok.1 c.in_ok-insert.ensures.items
