use Rattle.std.proofs.Common.{◌++◌}
use Rattle.fx_data.specs.Table.{AreLawful}
use Rattle.fx_value.specs.Calls.{heard, SamePatterns}
use Rattle.fx_value.specs.Works.{flat_each, into}
use Rattle.fx_value.proofs.Loops.{Goes}
use Rattle.fx_group.specs.Filter.{kept_table, kept_tables}
use Rattle.fx_group.proofs.keeping.keep_tables.Given as goal

abbrev pub invariant-loop-table : goal.invariant-loop-table
invariant-loop-table g l = record {
  goes : Goes (kept_tables (g.F.RowFun.means l.fun (heard (g.F.RowFun.numbers l.fun) (g.P.Patterns.test l.initial.patterns))) l.fn.tables)
      (λ n. into ◌++◌ l.kept.items (flat_each (kept_table (g.F.RowFun.means l.fun (heard (g.F.RowFun.numbers l.fun) (g.P.Patterns.test l.initial.patterns))) n) l.table-iterator.rest.items))
      l.initial.meter l.meter;
  patterns : SamePatterns g.P.Patterns.built g.P.Patterns.refusals g.P.Patterns.test l.initial.patterns l.patterns;
  lawful : AreLawful (l.kept.items ++ l.table-iterator.rest.items);
}
