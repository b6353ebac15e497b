use Rattle.std.proofs.Common.{FitsSigned, w64, arith, rules}
use Rattle.std.proofs.lemmas.Int.{ints, to_z-of_z}
use Rattle.std.specs.Int.{w128}
use Rattle.fx_window.proofs.Clipped.{copies_reach, copies_before, copies_behind, reach_near}
use Rattle.fx_window.proofs.reach.reach_of.Goals as goal
use Rattle.fx_window.proofs.reach.reach_of.Goals.{then-at-via-then-at, then-at-via-else-at+then-at-2}

pub returns-then-at-clause-rows : goal.returns-then-at-clause-rows
returns-then-at-clause-rows c key row =
    let time : FitsSigned w64 c.args.at.time = search rules in
    let low : FitsSigned w64 c.args.at.low = search rules in
    let high : FitsSigned w64 c.args.at.high = search rules in
    elim c.then-at.branch [
      | then-at-via-then-at w ↦ let h = simp to_z-of_z at w.if-at.true in copies_before c.args.every c.args.period c.args.at key row (omega (arith, ints))
      | then-at-via-else-at+then-at-2 w ↦ let h = simp to_z-of_z at w.if-at-2.true in copies_behind c.args.every c.args.period c.args.at key row (omega (arith, ints))
    ]

pub returns-clause-rows : goal.returns-clause-rows
returns-clause-rows c key row =
    let time : FitsSigned w64 c.args.at.time = search rules in
    let low : FitsSigned w64 c.args.at.low = search rules in
    let high : FitsSigned w64 c.args.at.high = search rules in
    let first : FitsSigned w128 c.windows_at-first.result.0 = search rules in
    let next : FitsSigned w128 c.windows_at-first.result.1 = search rules in
    let stopped = simp to_z-of_z at c.windows_at-first.ensures.stopped in
    let started = simp to_z-of_z at c.windows_at-first.ensures.started in
    let holding = simp to_z-of_z at c.windows_at-first.ensures.holding in
    let after = simp to_z-of_z at c.if-at.false in
    let before = simp to_z-of_z at c.if-at-2.false in
    simp to_z-of_z (copies_reach c.args.every c.args.period c.args.at key row c.windows_at-first.result.0 c.windows_at-first.result.1 stopped started holding (omega (arith, ints, after)) (omega (arith, ints, before)))

pub returns-clause-near : goal.returns-clause-near
returns-clause-near c k from to =
    let time : FitsSigned w64 c.args.at.time = search rules in
    let first : FitsSigned w128 c.windows_at-first.result.0 = search rules in
    let next : FitsSigned w128 c.windows_at-first.result.1 = search rules in
    let holding = simp to_z-of_z at c.windows_at-first.ensures.holding in
    reach_near c.args.every c.args.period c.args.at.time c.args.at.low c.args.at.high c.windows_at-first.result.0 c.windows_at-first.result.1 time holding k
    (simp to_z-of_z at from) (simp to_z-of_z at to)
