use Rattle.std.proofs.Common.{pos, ◌+ℤ◌, ◌-ℤ◌, FitsSigned, w64, refl, arith, rules}
use Rattle.std.proofs.lemmas.Int.{ints, to_z-of_z}
use Rattle.std.specs.Int.{w128}
use Rattle.fx_window.proofs.Clipped.{apart_alone, apart_starts, apart_stops}
use Rattle.fx_window.proofs.reach.are_apart.Goals as goal
use Rattle.fx_window.proofs.reach.are_apart.Goals.{then-reach-via-then-reach, then-reach-via-else-reach+then-reach-2}

pub returns-then-reach : goal.returns-then-reach
returns-then-reach c _ =
    let first : FitsSigned w128 c.args.reach.first = search rules in
    let next : FitsSigned w128 c.args.reach.next = search rules in
    elim c.then-reach.branch [
      | then-reach-via-then-reach w ↦ let h = simp to_z-of_z at w.if-reach.true in apart_alone c.args.every c.args.period c.requires.pair c.args.reach (omega (arith, ints))
      | then-reach-via-else-reach+then-reach-2 w ↦
          let some = simp to_z-of_z at w.if-reach.false in
          let less : FitsSigned w128 (c.args.reach.next -ℤ pos 1) = omega (arith, ints, some) in
          let h = simp to_z-of_z at w.if-reach-2.true in apart_alone c.args.every c.args.period c.requires.pair c.args.reach (omega (arith, ints))
    ]

pub window_bounds-start-requires-clause-near : goal.window_bounds-start-requires-clause-near
window_bounds-start-requires-clause-near c =
    let first : FitsSigned w128 c.args.reach.first = search rules in
    let next : FitsSigned w128 c.args.reach.next = search rules in
    let some = simp to_z-of_z at c.if-reach.false in
    let less : FitsSigned w128 (c.args.reach.next -ℤ pos 1) = omega (arith, ints, some) in
    let more : FitsSigned w128 (c.args.reach.first +ℤ pos 1) = omega (arith, ints, some) in
    let two = simp to_z-of_z at c.if-reach-2.false in
    simp to_z-of_z (c.requires.near (c.args.reach.first +ℤ pos 1) (omega (arith, ints)) (omega (arith, ints, two)))

pub window_bounds-stop-requires-clause-near : goal.window_bounds-stop-requires-clause-near
window_bounds-stop-requires-clause-near c =
    let first : FitsSigned w128 c.args.reach.first = search rules in
    let next : FitsSigned w128 c.args.reach.next = search rules in
    let some = simp to_z-of_z at c.if-reach.false in
    let less : FitsSigned w128 (c.args.reach.next -ℤ pos 1) = omega (arith, ints, some) in
    let two = simp to_z-of_z at c.if-reach-2.false in
    let before : FitsSigned w128 (c.args.reach.next -ℤ pos 2) = omega (arith, ints, two) in
    simp to_z-of_z (c.requires.near (c.args.reach.next -ℤ pos 2) (omega (arith, ints, two)) (omega (arith, ints)))

pub returns-then-reach-start : goal.returns-then-reach-start
returns-then-reach-start c _ =
    let first : FitsSigned w128 c.args.reach.first = search rules in
    let next : FitsSigned w128 c.args.reach.next = search rules in
    let low : FitsSigned w64 c.args.reach.low = search rules in
    let low_wide : FitsSigned w128 c.args.reach.low = omega (arith, ints) in
    let start : FitsSigned w128 c.window_bounds-start.result.0 = search rules in
    let some = simp to_z-of_z at c.if-reach.false in
    let more : FitsSigned w128 (c.args.reach.first +ℤ pos 1) = omega (arith, ints, some) in
    let is = simp to_z-of_z at c.window_bounds-start.ensures.start in
    let over = simp to_z-of_z at c.if-reach-start.true in
    apart_starts c.args.every c.args.period c.requires.pair c.args.reach (c.args.reach.first +ℤ pos 1) refl (omega (arith, ints, is, over))

pub returns-else-reach-start : goal.returns-else-reach-start
returns-else-reach-start c truth =
    let first : FitsSigned w128 c.args.reach.first = search rules in
    let next : FitsSigned w128 c.args.reach.next = search rules in
    let high : FitsSigned w64 c.args.reach.high = search rules in
    let high_wide : FitsSigned w128 c.args.reach.high = omega (arith, ints) in
    let stop : FitsSigned w128 c.window_bounds-stop.result.1 = search rules in
    let some = simp to_z-of_z at c.if-reach.false in
    let less : FitsSigned w128 (c.args.reach.next -ℤ pos 1) = omega (arith, ints, some) in
    let two = simp to_z-of_z at c.if-reach-2.false in
    let before : FitsSigned w128 (c.args.reach.next -ℤ pos 2) = omega (arith, ints, two) in
    let is = simp to_z-of_z at c.window_bounds-stop.ensures.stop in
    let under = simp to_z-of_z at truth in
    apart_stops c.args.every c.args.period c.requires.pair c.args.reach (c.args.reach.next -ℤ pos 2) (omega (arith, ints)) (omega (arith, ints, is, under))
