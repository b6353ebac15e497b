use Rattle.std.proofs.Common.{◌≡◌, drop}
use Rattle.fx_scan.specs.Readers.{end_of}
use Rattle.fx_scan.proofs.enclosed.end_of.Given as goal

abbrev pub invariant-bytes : goal.invariant-bytes
invariant-bytes l = end_of l.fn.s l.fn.held 0 ≡ end_of (drop l.i l.s) l.held l.i
