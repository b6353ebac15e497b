use Rattle.std.proofs.Common.{sym, subst}
use Rattle.fx_data.specs.Table.{IsLawfulTable}
use Rattle.fx_shape.specs.Naming.{stays}
use Rattle.fx_shape.proofs.Left.{left_lawful}
use Rattle.fx_shape.proofs.leaving.push_left.Goals as goal

pub push_table-requires : goal.push_table-requires
push_table-requires c = subst IsLawfulTable (sym c.in_ok-table.ensures) (left_lawful (stays c.args.naming.now) c.args.table c.requires.lawful)
