use Rattle.fx_generalize.proofs.KindLaws.{kinds_exact}
use Rattle.fx_generalize.proofs.kinds.kinds_of.Goals as goal

pub returns : goal.returns
returns c =
    kinds_exact c.args.set.now c.empty-kinds.result c.add_kind.new.kinds c.add_kind-2.new.kinds c.add_kind-3.new.kinds c.add_kind-4.new.kinds c.empty-kinds.ensures c.in_ok-add_kind.ensures c.in_ok-add_kind-2.ensures
    c.in_ok-add_kind-3.ensures c.in_ok-add_kind-4.ensures
