use Rattle.fx_infer.proofs.RowLaws.{nothing_found}
use Rattle.fx_infer.proofs.records.no_row.Goals as goal

pub returns : goal.returns
returns c = nothing_found c.args.bindings
