use Rattle.std.proofs.Common.{FitsSigned, w64, ap, ◌∙◌, arith, rules}
use Rattle.std.proofs.lemmas.Int.{ints, to_z-of_z}
use Rattle.std.specs.Int.{w128, int_min, int_max}
use Rattle.fx_window.proofs.reach.clipped.Goals as goal

pub lowered-requires : goal.lowered-requires
lowered-requires c =
    let k : FitsSigned w128 c.args.k = search rules in
    let stop : FitsSigned w128 c.window_bounds-start.result.1 = search rules in
    let is = simp to_z-of_z at c.window_bounds-start.ensures.stop in
    simp to_z-of_z (omega (arith, ints, c.requires.near.0, is))

pub returns-clause-start : goal.returns-clause-start
returns-clause-start c =
    let k : FitsSigned w128 c.args.k = search rules in
    let low : FitsSigned w64 c.args.reach.low = search rules in
    let raised : FitsSigned w64 c.raised.result = search rules in
    let start : FitsSigned w128 c.window_bounds-start.result.0 = search rules in
    let is = simp to_z-of_z at c.window_bounds-start.ensures.start in
    let value = simp to_z-of_z at c.raised.ensures in
    simp to_z-of_z (value ∙ ap (int_max c.args.reach.low) is)

pub returns-clause-stop : goal.returns-clause-stop
returns-clause-stop c =
    let k : FitsSigned w128 c.args.k = search rules in
    let high : FitsSigned w64 c.args.reach.high = search rules in
    let lowered : FitsSigned w64 c.lowered.result = search rules in
    let stop : FitsSigned w128 c.window_bounds-start.result.1 = search rules in
    let is = simp to_z-of_z at c.window_bounds-start.ensures.stop in
    let value = simp to_z-of_z at c.lowered.ensures in
    simp to_z-of_z (value ∙ ap (int_min c.args.reach.high) is)
