use Rattle.std.proofs.Common.{ap, ◌∙◌}
use Rattle.fx_data.specs.Regrouped.{joined}
use Rattle.fx_data.proofs.Regrouped.{pushed}
use Rattle.fx_data.proofs.runs.Runs.push_table.Goals as goal

pub returns-in_ok-tables-in-None : goal.returns-in_ok-tables-in-None
returns-in_ok-tables-in-None c = pushed c.self.inside.tables.items c.in_ok-tables-in-None.tables.items c.args.table c.in_ok-tables-in-None.ensures ∙ ap (λ groups. joined groups c.args.table) c.self.view_is
