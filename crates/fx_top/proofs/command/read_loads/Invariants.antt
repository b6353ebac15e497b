use Rattle.std.proofs.Common.{take}
use Rattle.fx_top.specs.Command.{AreLoads}
use Rattle.fx_top.proofs.command.read_loads.Given as goal

abbrev pub invariant-loop-word : goal.invariant-loop-word
invariant-loop-word l = AreLoads (take l.word-index l.words) l.loads
