use Rattle.std.proofs.Common.{◌≡◌, ◌≤◌, take}
use Rattle.fx_scan.specs.Forms.{number_of, greatest}
use Rattle.fx_scan.proofs.digits.number_of.Given as goal

abbrev pub invariant-digits : goal.invariant-digits
invariant-digits l = record {
  value : l.number ≡ number_of (take l.digit-index l.digits);
  bound : l.number ≤ greatest;
}
