use Rattle.std.proofs.Common.{◌≡◌, List, subst}
use Rattle.std.specs.Prelude.{IfOk}
use Rattle.fx_data.specs.declared.table.Table.{Table}
use Rattle.fx_agg.proofs.Values.{differing_is}
use Rattle.fx_agg.proofs.differing.distinct.Goals as goal

pub returns : goal.returns
returns c =
    subst (λ (ts : List Table). IfOk c.into_tables.result (λ t. t ≡ ts)) (differing_is c.args.column.now c.args.tables c.in_ok-runs.runs c.in_ok-runs.ensures)
    c.into_tables.ensures
