use Rattle.std.proofs.Common.{sym, subst}
use Rattle.fx_data.specs.Table.{AreLawful}
use Rattle.fx_data.proofs.Lawful.{no_tables_lawful}
use Rattle.fx_data.proofs.tables.Tables.empty.Goals as goal

pub invariant_of-result : goal.invariant_of-result
invariant_of-result c = subst AreLawful (sym c.empty.ensures) no_tables_lawful
