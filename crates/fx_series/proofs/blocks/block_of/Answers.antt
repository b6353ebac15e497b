use Rattle.std.proofs.Common.{◌≡◌, ◌+◌, ◌-◌, ◌/◌, suc, ◌<◌, ℤ, List, length, get_or, true, false, take, drop, sym, ap, ◌∙◌, subst, arith, add-one, to_z, of_z, w64}
use Rattle.std.specs.Ordering.{int_cmp, is_lt}
use Rattle.std.proofs.lemmas.Int.{to_z-of_z}
use Rattle.fx_series.specs.declared.series.TimeValue.{TimeValue}
use Rattle.fx_series.specs.Blocks.{entries_in, Before, After, last_time}
use Rattle.fx_series.proofs.BlockPlaces.{below_block, above_block}
use Rattle.fx_series.proofs.InBlock.{less_is}
use Rattle.fx_series.proofs.blocks.block_of.Goals as goal

pub loop-low-preserved-then-ends_before : goal.loop-low-preserved-then-ends_before
loop-low-preserved-then-ends_before c =
    let middle = c.loop-low.low + (c.loop-low.high - c.loop-low.low) / 2 in
    let bs = c.args.blocks.now in
    let block = c.index-blocks-middle.result in
    let time = to_z w64 (of_z w64 c.args.time) in
    let within : middle < length bs = omega (arith, c.loop-low.invariant.within, c.loop-low.invariant.order) in
    let ends : is_lt (int_cmp (last_time (get_or bs middle block)) time) ≡ true = ap (λ (b : List TimeValue). is_lt (int_cmp (last_time b) time)) (sym c.index-blocks-middle.is) ∙ sym c.if-ends_before.ensures in
    record {
      order = omega (arith, c.loop-low.invariant.order);
      within = c.loop-low.invariant.within;
      below = subst (λ n. Before time (entries_in (take n bs))) (sym (add-one middle)) (below_block bs middle block time within c.requires.are (less_is (last_time (get_or bs middle block)) time ends));
      above = c.loop-low.invariant.above;
    }

pub loop-low-preserved : goal.loop-low-preserved
loop-low-preserved c =
    let middle = c.loop-low.low + (c.loop-low.high - c.loop-low.low) / 2 in
    let bs = c.args.blocks.now in
    let block = c.index-blocks-middle.result in
    let time = to_z w64 (of_z w64 c.args.time) in
    let within : middle < length bs = omega (arith, c.loop-low.invariant.within, c.loop-low.invariant.order) in
    let ends : is_lt (int_cmp (last_time (get_or bs middle block)) time) ≡ false = ap (λ (b : List TimeValue). is_lt (int_cmp (last_time b) time)) (sym c.index-blocks-middle.is) ∙ sym c.if-ends_before.ensures in
    record {
      order = omega (arith, c.loop-low.invariant.order);
      within = within;
      below = c.loop-low.invariant.below;
      above = subst (λ n. After time (entries_in (drop n bs))) (sym (add-one middle)) (above_block bs middle block time within c.requires.are ends);
    }
