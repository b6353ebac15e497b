use Rattle.fx_value.specs.Calls.{heard, SamePatterns}
use Rattle.fx_value.specs.Works.{into}
use Rattle.fx_value.proofs.Loops.{Goes}
use Rattle.fx_join.specs.Joined.{lines_of}
use Rattle.fx_join.specs.Part.{with_lines}
use Rattle.fx_join.proofs.joining.join_lefts.Given as goal

abbrev pub invariant-loop-left : goal.invariant-loop-left
invariant-loop-left g l = record {
  goes : Goes
      (λ n. into (with_lines l.key) l.fn.part (lines_of (g.F.RowFun.means l.on (heard (g.F.RowFun.numbers l.on) (g.P.Patterns.test l.initial.patterns)))
      (g.G.RowFun.means l.both (heard (g.G.RowFun.numbers l.both) (g.P.Patterns.test l.initial.patterns))) l.side l.rights l.fn.lefts n))
      (λ n. into (with_lines l.key) l.part (lines_of (g.F.RowFun.means l.on (heard (g.F.RowFun.numbers l.on) (g.P.Patterns.test l.initial.patterns)))
      (g.G.RowFun.means l.both (heard (g.G.RowFun.numbers l.both) (g.P.Patterns.test l.initial.patterns))) l.side l.rights l.left-iterator.rest.items n))
      l.initial.meter l.meter;
  patterns : SamePatterns g.P.Patterns.built g.P.Patterns.refusals g.P.Patterns.test l.initial.patterns l.patterns;
}
