use Rattle.std.proofs.Common.{subst}
use Rattle.fx_scan.specs.Readers.{IsTimeLen}
use Rattle.fx_scan.proofs.FoundLemmas.{time_taken}
use Rattle.fx_scan.proofs.front.number_at.Goals as goal

pub returns-in-Some : goal.returns-in-Some
returns-in-Some c = time_taken c.args.mode c.args.s.now c.in-Some.len c.requires (subst (IsTimeLen c.args.s.now) c.in-Some.is c.time_len.ensures)
