use Rattle.std.proofs.Common.{◌≢◌, ℕ, List, true}
use Rattle.fx_group.specs.Answer.{Row, tested}
use Rattle.fx_group.proofs.Unstuck.{every_row, filter_never_stuck}
use Rattle.fx_value.specs.declared.answer.Answer.TheVariants.{Cell}
use Rattle.fx_value.specs.declared.scalar.Scalar.TheVariants.{Bool}
use Rattle.fx_value.specs.Ends.{Gives, Stuck}
use Rattle.fx_bench.proofs.work.filtered.Goals as goal

pub filter-requires-clause-unstuck : goal.filter-requires-clause-unstuck
filter-requires-clause-unstuck c =
    let means = λ (rows : List Row) (limit : ℕ). Gives (Cell (Bool true)) 0 in
    filter_never_stuck means c.args.tables (λ limit. every_row (λ row. tested means limit row ≢ Stuck) (λ row h. cc) c.args.tables)
