use Rattle.std.proofs.Common.{sym, ◌∙◌}
use Rattle.fx_value.proofs.Rows.{nothing_removed}
use Rattle.fx_value.proofs.row.Row.take_out.Goals as goal

pub returns-in-None-clause-left : goal.returns-in-None-clause-left
returns-in-None-clause-left c = nothing_removed _ _ (sym c.in-None.is ∙ c.in_ok-copy_at.ensures)
