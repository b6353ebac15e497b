use Rattle.std.proofs.Common.{◌≡◌, ◌<◌, length, ◌∙◌, arith, false, true}
use Rattle.fx_load.specs.declared.load.TheConstants.{MOST_POINTS}
use Rattle.fx_load.proofs.load.put_point.Goals as goal

pub returns-in-Ok : goal.returns-in-Ok
returns-in-Ok c = λ buckets stored stands.
    let count : c.points.result ≡ length stored = c.points.ensures ∙ stands.puts_are in
    let few : length stored < MOST_POINTS = omega (arith, count) in
    ((c.in-Ok.ensures.answers buckets stored stands).1, c.in-Ok.ensures.ok buckets stored stands, few)
