use Rattle.fx_join.proofs.times.SameTimeRowFun.call_two.Goals as goal

pub tell-requires : goal.tell-requires
tell-requires g c = λ stuck. c.requires.unstuck 0 stuck
