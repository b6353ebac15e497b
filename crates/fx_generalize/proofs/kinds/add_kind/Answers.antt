use Rattle.fx_unify.proofs.StoreLaws.{on_ok}
use Rattle.fx_generalize.proofs.KindLaws.{kind_added, kind_absent}
use Rattle.fx_generalize.proofs.kinds.add_kind.Goals as goal

pub returns-then-is_there : goal.returns-then-is_there
returns-then-is_there c = on_ok c.push.result (kind_added c.args.kinds.now c.push.new.self c.args.kind c.args.is_there c.if-is_there.true) c.push.ensures.ok

pub returns : goal.returns
returns c = kind_absent c.args.kinds.now c.args.kind c.args.is_there c.if-is_there.false
