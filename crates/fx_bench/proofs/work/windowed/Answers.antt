use Rattle.std.proofs.Common.{◌≡◌, true, rules}
use Rattle.fx_bench.specs.Timed.{have_times}
use Rattle.fx_bench.proofs.Taken.{timed_window}
use Rattle.fx_bench.proofs.work.windowed.Goals as goal

pub window-requires : goal.window-requires
window-requires c =
    let timed : have_times c.args.tables ≡ true = search rules in
    timed_window _ _ _ c.args.tables timed
