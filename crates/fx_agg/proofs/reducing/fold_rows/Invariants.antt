use Rattle.fx_value.specs.Calls.{heard, SamePatterns}
use Rattle.fx_value.proofs.Loops.{Goes}
use Rattle.fx_agg.specs.Reduce.{reduced_rows}
use Rattle.fx_agg.proofs.reducing.fold_rows.Given as goal

abbrev pub invariant-loop-row : goal.invariant-loop-row
invariant-loop-row g l = record {
  goes : Goes (reduced_rows (g.F.RowFun.means l.fun (heard (g.F.RowFun.numbers l.fun) (g.P.Patterns.test l.initial.patterns))) l.identity l.fn.rows)
      (reduced_rows (g.F.RowFun.means l.fun (heard (g.F.RowFun.numbers l.fun) (g.P.Patterns.test l.initial.patterns))) l.accumulator l.row-iterator.rest.items)
      l.initial.meter l.meter;
  patterns : SamePatterns g.P.Patterns.built g.P.Patterns.refusals g.P.Patterns.test l.initial.patterns l.patterns;
}
