use Rattle.std.proofs.Common.{ℕ, List}
use Rattle.fx_agg.proofs.Unstuck.{reduce_never_stuck}
use Rattle.fx_group.specs.Answer.{Row}
use Rattle.fx_bench.specs.FirstRow.{made_of_first}
use Rattle.fx_bench.proofs.work.reduced.Goals as goal

pub reduce-requires-clause-unstuck : goal.reduce-requires-clause-unstuck
reduce-requires-clause-unstuck c =
    let means = λ (rows : List Row) (limit : ℕ). made_of_first (λ row. row) rows in
    reduce_never_stuck means c.in_ok-identity.identity c.args.tables (λ limit accumulator row h. cc)
