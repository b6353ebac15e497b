use Rattle.std.proofs.Common.{drop}
use Rattle.fx_value.specs.Calls.{heard, SamePatterns}
use Rattle.fx_value.specs.Works.{flat_each, into}
use Rattle.fx_value.proofs.Loops.{Goes}
use Rattle.fx_join.specs.Join.{found_row, found_line}
use Rattle.fx_join.specs.Part.{with_found}
use Rattle.fx_join.proofs.line.find_rows.Given as goal

abbrev pub invariant-loop-right : goal.invariant-loop-right
invariant-loop-right g l = record {
  goes : Goes
      (found_line (g.F.RowFun.means l.on (heard (g.F.RowFun.numbers l.on) (g.P.Patterns.test l.initial.patterns)))
      (g.G.RowFun.means l.both (heard (g.G.RowFun.numbers l.both) (g.P.Patterns.test l.initial.patterns))) l.rights l.left)
      (λ n. into with_found l.line (flat_each (found_row (g.F.RowFun.means l.on (heard (g.F.RowFun.numbers l.on) (g.P.Patterns.test l.initial.patterns)))
      (g.G.RowFun.means l.both (heard (g.G.RowFun.numbers l.both) (g.P.Patterns.test l.initial.patterns))) l.left n) (drop l.right-index l.rights)))
      l.initial.meter l.meter;
  patterns : SamePatterns g.P.Patterns.built g.P.Patterns.refusals g.P.Patterns.test l.initial.patterns l.patterns;
}
