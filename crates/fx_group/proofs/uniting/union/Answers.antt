use Rattle.std.proofs.Common.{◌≡◌, List, ap, subst}
use Rattle.std.specs.Prelude.{IfOk}
use Rattle.fx_data.specs.Gathered.{gathered}
use Rattle.fx_data.specs.declared.table.Table.{Table}
use Rattle.fx_group.specs.Union.{united}
use Rattle.fx_group.proofs.uniting.union.Goals as goal

pub returns : goal.returns
unfolding united
returns c = subst (λ (ts : List Table). IfOk c.collect.result (λ t. t ≡ ts)) (ap gathered c.in_ok-tables.ensures.tables) c.collect.ensures
