use Rattle.std.proofs.Common.{false, true, map, refl, sym, ◌∙◌}
use Rattle.fx_ast.specs.Free.{is_param, name_of}
use Rattle.fx_ast.specs.Shape.{param, params_of}
use Rattle.fx_rowfn.proofs.FreeLaws.{bound_found, bound_on}
use Rattle.fx_rowfn.proofs.WalkLaws.{walk_ends, walk_on, walk_stops}
use Rattle.fx_rowfn.proofs.free.is_bound.Goals as goal

pub loop-first-preserved : goal.loop-first-preserved
loop-first-preserved c =
    walk_on (λ ps. is_param (params_of (map param ps)) (name_of c.args.name.now)) c.args.params.now c.loop-first.first-index c.first-item.result c.loop-first-test.true c.first-item.is c.loop-first.invariant
    (bound_on c.args.name.now c.first-item.result (sym c.eq.ensures ∙ c.if-eq.false))

pub returns-then-eq : goal.returns-then-eq
returns-then-eq c =
    walk_stops (λ ps. is_param (params_of (map param ps)) (name_of c.args.name.now)) c.args.params.now c.loop-first.first-index c.first-item.result true c.loop-first-test.true c.first-item.is c.loop-first.invariant
    (bound_found c.args.name.now c.first-item.result (sym c.eq.ensures ∙ c.if-eq.true))

pub returns : goal.returns
returns c =
    walk_ends (λ ps. is_param (params_of (map param ps)) (name_of c.args.name.now)) c.args.params.now c.loop-first.first-index false c.loop-first-test.false c.loop-first.invariant refl
