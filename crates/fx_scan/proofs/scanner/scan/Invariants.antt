use Rattle.std.proofs.Common.{◌≤◌, ◌-◌, length}
use Rattle.fx_scan.proofs.ListSteps.{IsSoFar}
use Rattle.fx_scan.proofs.scanner.scan.Given as goal

abbrev pub invariant-places : goal.invariant-places
invariant-places l = record {
  within : l.at ≤ length l.bytes;
  so_far : IsSoFar l.bytes l.tokens l.at l.mode;
}

abbrev pub decreases-places : goal.decreases-places
decreases-places l = length l.bytes - l.at
