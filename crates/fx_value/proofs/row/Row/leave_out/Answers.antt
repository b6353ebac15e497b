use Rattle.std.proofs.Common.{ap, ◌∙◌}
use Rattle.std.specs.FinMap as map
use Rattle.fx_value.specs.Row.{row_of}
use Rattle.fx_value.proofs.Rows.{row_of-remove}
use Rattle.fx_value.proofs.row.Row.leave_out.Goals as goal

pub returns-clause-ok : goal.returns-clause-ok
returns-clause-ok c =
    ap (λ h. row_of h c.self.inside.first c.self.inside.second) (c.put.ensures ∙ c.in_ok-labels.ensures)
    ∙ row_of-remove c.self.inside.first c.self.inside.second _ _ ∙ ap (λ m. map.remove m c.args.label.now) c.self.view_is
