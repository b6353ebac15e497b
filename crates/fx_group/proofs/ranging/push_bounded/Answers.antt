use Rattle.std.proofs.Common.{sym, subst}
use Rattle.std.specs.Prelude.{IfOk, ◌≡◌}
use Rattle.fx_data.specs.Regrouped.{joined}
use Rattle.fx_data.specs.Table.{IsLawfulTable}
use Rattle.fx_data.specs.declared.table.Table.{Table}
use Rattle.fx_group.proofs.Ranged.{bounded_lawful}
use Rattle.fx_group.proofs.ranging.push_bounded.Goals as goal

pub push_table-requires : goal.push_table-requires
push_table-requires c =
    subst IsLawfulTable (sym c.in_ok-table.ensures) (bounded_lawful c.args.bounds.now.start c.args.bounds.now.stop c.args.table c.requires.lawful)

pub returns : goal.returns
returns c = subst (λ (t : Table). IfOk c.push_table.result (λ r. r ≡ joined c.args.runs t)) c.in_ok-table.ensures c.push_table.ensures
