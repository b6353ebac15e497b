use Rattle.std.proofs.Common.{sym, ap, subst, ◌∙◌}
use Rattle.std.specs.List.{AllByRecursion}
use Rattle.fx_data.specs.Ascending.{Rise}
use Rattle.fx_data.specs.Gathered.{grouped}
use Rattle.fx_data.specs.Table.{IsLawfulTable}
use Rattle.fx_data.proofs.Lawful.{no_tables_lawful}
use Rattle.fx_data.proofs.Regrouped.{grouped_none}
use Rattle.fx_data.proofs.runs.Runs.empty.Goals as goal

pub invariant_of-result : goal.invariant_of-result
invariant_of-result c = (subst (AllByRecursion IsLawfulTable) (sym c.new.ensures.items) tt, subst Rise (sym c.new.ensures.items) no_tables_lawful.rising)

pub returns : goal.returns
returns c = ap grouped c.new.ensures.items ∙ grouped_none
