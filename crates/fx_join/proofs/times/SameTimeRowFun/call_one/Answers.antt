use Rattle.std.proofs.Common.{refl}
use Rattle.fx_join.proofs.times.SameTimeRowFun.call_one.Goals as goal

pub unreachable-requires : goal.unreachable-requires
unreachable-requires g c = c.requires.unstuck 0 refl
