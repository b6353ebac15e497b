use Rattle.std.proofs.Common.{ℕ, List, [], Bor}
use Rattle.fx_ops.proofs.RowLemmas.{joined-now}
use Rattle.fx_ops.proofs.texts.joined.Goals as goal

pub returns-in-len1-up : goal.returns-in-len1-up
returns-in-len1-up c =
    let none : Bor (List ℕ) = record { ref_ptr = (0, 0); now = [] } in
    rw (joined-now c.args.texts.now none c.in-len1-up.len_at_least) c.in_a_row.ensures
