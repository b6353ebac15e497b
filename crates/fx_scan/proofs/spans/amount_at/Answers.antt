use Rattle.fx_scan.specs.Forms.{is_digit}
use Rattle.fx_scan.proofs.Runs.{run_passes}
use Rattle.fx_scan.proofs.spans.amount_at.Goals as goal

pub number_of-requires : goal.number_of-requires
number_of-requires c = rw (c.front.ensures, c.digits_len-len.ensures.value) (run_passes is_digit c.args.s.now)
