use Rattle.std.proofs.Common.{sym, ◌∙◌}
use Rattle.fx_top.proofs.CommandLemmas.{no_bucket, no_file}
use Rattle.fx_top.proofs.command.read_load.Goals as goal
use Rattle.fx_top.proofs.command.read_load.Goals.{then-is_empty-via-then-is_empty, then-is_empty-via-else-is_empty+then-is_empty-2}

pub returns-then-is_empty-clause-none : goal.returns-then-is_empty-clause-none
returns-then-is_empty-clause-none c =
    let parts = c.in_ok-bucket.ensures.parts in
    let first = c.in_ok-bucket.ensures.first in
    elim c.then-is_empty.branch [
      | then-is_empty-via-then-is_empty w ↦ no_bucket _ _ _ parts first (sym c.is_empty.ensures ∙ w.if-is_empty.true)
      | then-is_empty-via-else-is_empty+then-is_empty-2 w ↦ no_file _ _ _ parts first (sym w.is_empty-else-is_empty.ensures ∙ w.if-is_empty-2.true)
    ]
