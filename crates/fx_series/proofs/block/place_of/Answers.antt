use Rattle.std.proofs.Common.{◌≡◌, ◌-◌, ℤ, sym, ap, ◌∙◌, subst, arith, to_z, of_z, w64}
use Rattle.std.specs.declared.cmp.Ordering.TheVariants.{Less}
use Rattle.std.specs.Ordering.{int_cmp, is_lt}
use Rattle.std.proofs.lemmas.Int.{ints, to_z-of_z}
use Rattle.fx_series.specs.declared.series.TimeValue.{TimeValue}
use Rattle.fx_series.specs.Blocks.{IsPlace}
use Rattle.fx_series.proofs.InBlock.{found_below}
use Rattle.fx_series.proofs.block.place_of.Goals as goal

pub returns-else-points-place : goal.returns-else-points-place
returns-else-points-place c =
    let point = c.index-points-place.result in
    let time : to_z w64 (of_z w64 c.args.time) ≡ c.args.time = to_z-of_z w64 c.args.time c.ranges.time in
    let less : int_cmp point.time (to_z w64 (of_z w64 c.args.time)) ≡ Less = grind (arith, ints, c.if-points-place.false) in
    subst (λ (t : ℤ). IsPlace c.args.points.now t c.loop-place.place) time
    (found_below c.args.points.now (to_z w64 (of_z w64 c.args.time)) c.loop-place.place point c.requires.rising c.loop-place.invariant (omega arith)
    (ap (λ (p : TimeValue). is_lt (int_cmp p.time (to_z w64 (of_z w64 c.args.time)))) (sym c.index-points-place.is) ∙ ap is_lt less))
