use Rattle.std.proofs.Common.{map, refl, sym, ◌∙◌}
use Rattle.std.specs.Prelude.{None, Some}
use Rattle.fx_ast.specs.Shape.{param, params_of}
use Rattle.fx_meaning.specs.Meaning.{pipe_of}
use Rattle.fx_rowfn.proofs.TakeLaws.{pipe_found, pipe_passes}
use Rattle.fx_rowfn.proofs.WalkLaws.{walk_ends, walk_on, walk_stops}
use Rattle.fx_rowfn.proofs.pipes.first_pipe.Goals as goal

pub loop-first-preserved : goal.loop-first-preserved
loop-first-preserved c =
    walk_on (λ ps. pipe_of (params_of (map param ps))) c.args.params.now c.loop-first.first-index c.first-item.result c.loop-first-test.true c.first-item.is c.loop-first.invariant
    (pipe_passes c.first-item.result (sym c.takes_pipe.ensures ∙ c.if-takes_pipe.false))

pub returns-then-takes_pipe : goal.returns-then-takes_pipe
returns-then-takes_pipe c =
    walk_stops (λ ps. pipe_of (params_of (map param ps))) c.args.params.now c.loop-first.first-index c.first-item.result (Some c.first-item.result.label) c.loop-first-test.true c.first-item.is c.loop-first.invariant
    (pipe_found c.first-item.result (sym c.takes_pipe.ensures ∙ c.if-takes_pipe.true))

pub returns : goal.returns
returns c =
    walk_ends (λ ps. pipe_of (params_of (map param ps))) c.args.params.now c.loop-first.first-index None c.loop-first-test.false c.loop-first.invariant refl
