use Rattle.std.proofs.Common.{sym, ap, ◌∙◌}
use Rattle.fx_bench.specs.Timed.{have_times}
use Rattle.fx_bench.proofs.Taken.{timed_cut}
use Rattle.fx_bench.proofs.work.cut_up.Goals as goal

pub cut-requires-clause-unstuck : goal.cut-requires-clause-unstuck
cut-requires-clause-unstuck c =
    timed_cut _ _ c.table-item.result c.as_slice-then-branch.result.now c.in-len1-up.len_at_least c.table-item.is
    (ap have_times (c.as_slice-then-branch.ensures.value ∙ sym c.as_slice.ensures.value) ∙ sym c.in_ok-have_times.ensures ∙ c.if-branch.true)
