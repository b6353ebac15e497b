use Rattle.fx_value.specs.Calls.{heard, SamePatterns}
use Rattle.fx_value.specs.Works.{flat_each, into}
use Rattle.fx_value.proofs.Loops.{Goes}
use Rattle.fx_join.specs.Join.{lone_right}
use Rattle.fx_join.specs.Part.{with_keyed}
use Rattle.fx_join.proofs.joining.join_rights.Given as goal

abbrev pub invariant-loop-right : goal.invariant-loop-right
invariant-loop-right g l = record {
  goes : Goes
      (λ n. into (with_keyed l.key) l.fn.runs (flat_each (lone_right (g.G.RowFun.means l.both (heard (g.G.RowFun.numbers l.both) (g.P.Patterns.test l.initial.patterns))) n) l.fn.rights))
      (λ n. into (with_keyed l.key) l.runs (flat_each (lone_right (g.G.RowFun.means l.both (heard (g.G.RowFun.numbers l.both) (g.P.Patterns.test l.initial.patterns))) n) l.right-iterator.rest.items))
      l.initial.meter l.meter;
  patterns : SamePatterns g.P.Patterns.built g.P.Patterns.refusals g.P.Patterns.test l.initial.patterns l.patterns;
}
