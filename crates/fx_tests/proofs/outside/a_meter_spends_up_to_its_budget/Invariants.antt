use Rattle.std.proofs.Common.{◌≤◌}
use Rattle.fx_tests.proofs.outside.a_meter_spends_up_to_its_budget.Given as goal

abbrev pub invariant-loop-n : goal.invariant-loop-n
invariant-loop-n g l = l.meter.spent ≤ l.meter.budget
