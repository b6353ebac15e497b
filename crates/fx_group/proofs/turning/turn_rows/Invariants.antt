use Rattle.fx_value.specs.Calls.{heard, SamePatterns}
use Rattle.fx_value.proofs.Loops.{Goes}
use Rattle.fx_group.specs.Turned.{rows_turned}
use Rattle.fx_group.proofs.turning.turn_rows.Given as goal

abbrev pub invariant-loop-row : goal.invariant-loop-row
invariant-loop-row g l = record {
  goes : Goes (rows_turned (g.F.RowFun.means l.fun (heard (g.F.RowFun.numbers l.fun) (g.P.Patterns.test l.initial.patterns))) l.fn.runs l.key l.fn.rows)
      (rows_turned (g.F.RowFun.means l.fun (heard (g.F.RowFun.numbers l.fun) (g.P.Patterns.test l.initial.patterns))) l.runs l.key l.row-iterator.rest.items)
      l.initial.meter l.meter;
  patterns : SamePatterns g.P.Patterns.built g.P.Patterns.refusals g.P.Patterns.test l.initial.patterns l.patterns;
}
