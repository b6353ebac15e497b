use Rattle.fx_bench.proofs.Taken.{no_pairs}
use Rattle.fx_bench.proofs.work.joined.Goals as goal

pub join_nested-requires-clause-unstuck : goal.join_nested-requires-clause-unstuck
join_nested-requires-clause-unstuck c = no_pairs _ c.args.left c.args.right
