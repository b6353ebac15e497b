use Rattle.std.proofs.Common.{refl, subst}
use Rattle.fx_rowfn.specs.State.{Leads, stack_of}
use Rattle.fx_rowfn.proofs.MoveLaws.{next_moves, stop_moves}
use Rattle.fx_rowfn.proofs.follow.taken.Goals as goal

pub returns-in-Ok-clause-moves : goal.returns-in-Ok-clause-moves
returns-in-Ok-clause-moves c = λ test control start work same is leads.
    next_moves test control start (stack_of c.args.frames.now.items) (stack_of c.follow.new.frames.items) work c.args.meter.now c.follow.new.meter same is c.in-Ok.next c.follow.result
    (subst (Leads work test) c.in-Ok.is leads) c.follow.ensures.carries

pub returns-in-Err-clause-moves : goal.returns-in-Err-clause-moves
returns-in-Err-clause-moves c = λ test control start work same is leads.
    stop_moves test control start (stack_of c.args.frames.now.items) (stack_of c.args.frames.now.items) work c.args.meter.now c.args.meter.now same is c.in-Err.stop refl (subst (Leads work test) c.in-Err.is leads)
