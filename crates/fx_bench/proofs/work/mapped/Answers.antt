use Rattle.std.proofs.Common.{◌≢◌, ℕ, pos, List}
use Rattle.std.specs.FinMap.{insert}
use Rattle.fx_group.specs.Answer.{Row, turned}
use Rattle.fx_group.proofs.Unstuck.{every_row, map_never_stuck}
use Rattle.fx_value.specs.declared.scalar.Scalar.TheVariants.{Int}
use Rattle.fx_value.specs.Ends.{Stuck}
use Rattle.fx_bench.specs.FirstRow.{made_of_first}
use Rattle.fx_bench.proofs.work.mapped.Goals as goal

pub map-requires-clause-unstuck : goal.map-requires-clause-unstuck
map-requires-clause-unstuck c =
    let means = λ (rows : List Row) (limit : ℕ). made_of_first (λ row. insert row c.in_ok-of.field-0 (Int (pos 7))) rows in
    map_never_stuck means c.args.tables (λ limit. every_row (λ row. turned means limit row ≢ Stuck) (λ row h. cc) c.args.tables)
