use Rattle.std.proofs.Common.{◌+◌, ◌*◌}
use Rattle.fx_generalize.proofs.collect.Collector.+collect.Given as goal

-- the fuel falls, and where it stays, the rank of the call does

abbrev pub decreases-collect_type : goal.decreases-collect_type
decreases-collect_type l = 4 * l.fuel

abbrev pub decreases-collect_function : goal.decreases-collect_function
decreases-collect_function l = 4 * l.fuel + 1

abbrev pub decreases-collect_row : goal.decreases-collect_row
decreases-collect_row l = 4 * l.fuel + 3

abbrev pub decreases-collect_open : goal.decreases-collect_open
decreases-collect_open l = 4 * l.fuel + 2

abbrev pub decreases-collect_field : goal.decreases-collect_field
decreases-collect_field l = 4 * l.fuel + 1
