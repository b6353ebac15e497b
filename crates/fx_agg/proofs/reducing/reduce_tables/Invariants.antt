use Rattle.std.specs.List.{AllByRecursion}
use Rattle.fx_data.specs.Table.{IsLawfulTable}
use Rattle.fx_value.specs.Calls.{heard, SamePatterns}
use Rattle.fx_value.proofs.Loops.{Goes}
use Rattle.fx_agg.specs.Reduce.{tables_reduced}
use Rattle.fx_agg.proofs.reducing.reduce_tables.Given as goal

abbrev pub invariant-loop-table : goal.invariant-loop-table
invariant-loop-table g l = record {
  goes : Goes (tables_reduced (g.F.RowFun.means l.fun (heard (g.F.RowFun.numbers l.fun) (g.P.Patterns.test l.initial.patterns))) l.identity l.fn.runs l.fn.tables)
      (tables_reduced (g.F.RowFun.means l.fun (heard (g.F.RowFun.numbers l.fun) (g.P.Patterns.test l.initial.patterns))) l.identity l.runs l.table-iterator.rest.items)
      l.initial.meter l.meter;
  patterns : SamePatterns g.P.Patterns.built g.P.Patterns.refusals g.P.Patterns.test l.initial.patterns l.patterns;
  lawful : AllByRecursion IsLawfulTable l.table-iterator.rest.items;
}
