use Rattle.std.proofs.Common.{false, true, map, refl, sym, ◌∙◌}
use Rattle.fx_ast.specs.Shape.{param, params_of}
use Rattle.fx_meaning.specs.Meaning.{are_params}
use Rattle.fx_values.specs.Shape.{slot, slots_of}
use Rattle.fx_rowfn.proofs.TakeLaws.{params_on, params_stop}
use Rattle.fx_rowfn.proofs.WalkLaws.{walk_ends, walk_on, walk_stops}
use Rattle.fx_rowfn.proofs.takes.are_params.Goals as goal

pub loop-first-preserved : goal.loop-first-preserved
loop-first-preserved c =
    let params = params_of (map param c.args.params.now) in
    walk_on (λ ss. are_params (slots_of (map slot ss)) params) c.args.args.now c.loop-first.first-index c.first-item.result c.loop-first-test.true c.first-item.is c.loop-first.invariant
    (params_on params c.first-item.result (sym c.is_param.ensures ∙ c.if-not-is_param.false))

pub returns-then-not-is_param : goal.returns-then-not-is_param
returns-then-not-is_param c =
    let params = params_of (map param c.args.params.now) in
    walk_stops (λ ss. are_params (slots_of (map slot ss)) params) c.args.args.now c.loop-first.first-index c.first-item.result false c.loop-first-test.true c.first-item.is c.loop-first.invariant
    (params_stop params c.first-item.result (sym c.is_param.ensures ∙ c.if-not-is_param.true))

pub returns : goal.returns
returns c =
    walk_ends (λ ss. are_params (slots_of (map slot ss)) (params_of (map param c.args.params.now))) c.args.args.now c.loop-first.first-index true c.loop-first-test.false c.loop-first.invariant refl
