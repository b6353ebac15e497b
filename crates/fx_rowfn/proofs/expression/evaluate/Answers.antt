use Rattle.std.proofs.Common.{subst, sym}
use Rattle.fx_ast.specs.Shape.{tree_of}
use Rattle.fx_meaning.specs.Meaning.{meaning}
use Rattle.fx_value.specs.Ends.{NeverStuck}
use Rattle.fx_values.specs.Known.{hears}
use Rattle.fx_values.specs.Shape.{val}
use Rattle.fx_rowfn.specs.Follows.{Evaluates}
use Rattle.fx_rowfn.proofs.expression.evaluate.Goals as goal

pub evaluate_in-requires-clause-unstuck : goal.evaluate_in-requires-clause-unstuck
evaluate_in-requires-clause-unstuck g c =
    let test = hears c.args.known.now (g.P.Patterns.test c.args.patterns.now) in
    subst (λ s. NeverStuck (meaning test s.setting (tree_of c.args.expr.now) s.env)) (sym c.in_ok-scope.ensures) c.requires.unstuck

pub returns-clause-answer : goal.returns-clause-answer
returns-clause-answer g c =
    let test = hears c.args.known.now (g.P.Patterns.test c.args.patterns.now) in
    subst (λ s. Evaluates val (meaning test s.setting (tree_of c.args.expr.now) s.env) c.args.meter.now c.evaluate_in.new.meter c.evaluate_in.result) c.in_ok-scope.ensures c.evaluate_in.ensures.answer
