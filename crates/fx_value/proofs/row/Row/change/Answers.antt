use Rattle.fx_value.proofs.Rows.{row_all_changed}
use Rattle.fx_value.proofs.row.Row.change.Goals as goal

pub returns-clause-row : goal.returns-clause-row
returns-clause-row c =
    row_all_changed c.self.inside.first c.self.inside.second c.args.changes.now _ _ _ c.self.view_is c.in_ok-known.ensures.labels
