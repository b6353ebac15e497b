use Rattle.std.proofs.Common.{◌++◌}
use Rattle.fx_value.specs.Calls.{heard, SamePatterns}
use Rattle.fx_value.specs.Works.{flat_each, into}
use Rattle.fx_value.proofs.Loops.{Goes}
use Rattle.fx_group.specs.Filter.{kept_row, kept_rows}
use Rattle.fx_group.proofs.keeping.keep_rows.Given as goal

abbrev pub invariant-loop-row : goal.invariant-loop-row
invariant-loop-row g l = record {
  goes : Goes (kept_rows (g.F.RowFun.means l.fun (heard (g.F.RowFun.numbers l.fun) (g.P.Patterns.test l.initial.patterns))) l.fn.rows)
      (λ n. into ◌++◌ l.kept.items (flat_each (kept_row (g.F.RowFun.means l.fun (heard (g.F.RowFun.numbers l.fun) (g.P.Patterns.test l.initial.patterns))) n) l.row-iterator.rest.items))
      l.initial.meter l.meter;
  patterns : SamePatterns g.P.Patterns.built g.P.Patterns.refusals g.P.Patterns.test l.initial.patterns l.patterns;
}
