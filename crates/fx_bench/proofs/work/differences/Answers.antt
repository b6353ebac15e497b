use Rattle.std.proofs.Common.{◌≡◌, true, rules}
use Rattle.std.specs.List.{list_all}
use Rattle.fx_bench.specs.Counted.{has_counted_rows}
use Rattle.fx_bench.proofs.Taken.{counted_difference}
use Rattle.fx_bench.proofs.work.differences.Goals as goal

pub difference-requires : goal.difference-requires
difference-requires c =
    let column = c.in_ok-column.column in
    let counted : list_all (has_counted_rows column) c.args.tables ≡ true = search rules in
    counted_difference _ column c.args.tables counted
