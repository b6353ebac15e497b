use Rattle.std.proofs.Common.{FitsSigned, w64, arith}
use Rattle.std.specs.Int.{w128}
use Rattle.std.proofs.lemmas.Int.{to_z-of_z}
use Rattle.jiff_core.proofs.SignedLemmas.{signed_arith}
use Rattle.fx_time.proofs.WindowLemmas.{window_is, holds_near}
use Rattle.fx_time.proofs.window.window_of.Goals as goal

pub window_bounds-requires-clause-near : goal.window_bounds-requires-clause-near
window_bounds-requires-clause-near c =
    let t : FitsSigned w64 c.args.t = c.ranges.t in
    let t128 : FitsSigned w128 c.args.t = omega (arith, signed_arith) in
    let wide : FitsSigned w128 c.last_started.result = omega (arith, signed_arith, c.last_started.ensures.bound) in
    let last = simp to_z-of_z at c.last_started.ensures.last in
    simp to_z-of_z (holds_near c.args.every c.args.every c.args.t c.last_started.result t (window_is c.args.every c.args.t c.last_started.result c.requires last))

pub returns : goal.returns
returns c =
    let t : FitsSigned w64 c.args.t = c.ranges.t in
    let t128 : FitsSigned w128 c.args.t = omega (arith, signed_arith) in
    let wide : FitsSigned w128 c.last_started.result = omega (arith, signed_arith, c.last_started.ensures.bound) in
    let last = simp to_z-of_z at c.last_started.ensures.last in
    let start = simp to_z-of_z at c.window_bounds.ensures.start in
    let stop = simp to_z-of_z at c.window_bounds.ensures.stop in
    (c.last_started.result, window_is c.args.every c.args.t c.last_started.result c.requires last, start, stop)
