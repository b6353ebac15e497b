use Rattle.std.proofs.Common.{false, true, map, refl, sym, ◌∙◌}
use Rattle.fx_ast.specs.Shape.{param, params_of}
use Rattle.fx_meaning.specs.Meaning.{all_given}
use Rattle.fx_values.specs.Shape.{slot, slots_of}
use Rattle.fx_rowfn.proofs.TakeLaws.{given_on, given_stops}
use Rattle.fx_rowfn.proofs.WalkLaws.{walk_ends, walk_on, walk_stops}
use Rattle.fx_rowfn.proofs.takes.all_given.Goals as goal

pub loop-first-preserved : goal.loop-first-preserved
loop-first-preserved c =
    let args = slots_of (map slot c.args.args.now) in
    walk_on (λ ps. all_given (params_of (map param ps)) args) c.args.params.now c.loop-first.first-index c.first-item.result c.loop-first-test.true c.first-item.is c.loop-first.invariant
    (given_on args c.first-item.result (sym c.has_argument.ensures ∙ c.if-not-has_argument.false))

pub returns-then-not-has_argument : goal.returns-then-not-has_argument
returns-then-not-has_argument c =
    let args = slots_of (map slot c.args.args.now) in
    walk_stops (λ ps. all_given (params_of (map param ps)) args) c.args.params.now c.loop-first.first-index c.first-item.result false c.loop-first-test.true c.first-item.is c.loop-first.invariant
    (given_stops args c.first-item.result (sym c.has_argument.ensures ∙ c.if-not-has_argument.true))

pub returns : goal.returns
returns c =
    walk_ends (λ ps. all_given (params_of (map param ps)) (slots_of (map slot c.args.args.now))) c.args.params.now c.loop-first.first-index true c.loop-first-test.false c.loop-first.invariant refl
