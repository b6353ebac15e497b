use Rattle.std.proofs.Common.{◌≡◌, pos, true, rules}
use Rattle.std.specs.Prelude.{codes}
use Rattle.std.specs.List.{list_all}
use Rattle.fx_bench.specs.Timed.{has_timed_rows}
use Rattle.fx_bench.proofs.Always.{timed_range}
use Rattle.fx_bench.proofs.work.ranged.Goals as goal

pub range-requires : goal.range-requires
range-requires c =
    let timed : list_all (has_timed_rows (codes "_time")) c.args.tables ≡ true = search rules in
    timed_range (pos 0) (pos 900) c.args.tables timed
