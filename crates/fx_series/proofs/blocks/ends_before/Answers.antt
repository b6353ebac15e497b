use Rattle.std.proofs.Common.{◌≡◌, ◌-◌, ℤ, List, true, length, get_or, sym, ap, ◌∙◌, subst, arith, to_z, of_z}
use Rattle.std.specs.Int.{w64}
use Rattle.std.specs.Ordering.{int_cmp, is_lt}
use Rattle.std.proofs.lemmas.Int.{to_z-of_z}
use Rattle.fx_series.specs.declared.series.TimeValue.{TimeValue}
use Rattle.fx_series.specs.Blocks.{last_time}
use Rattle.fx_series.proofs.BlockPlaces.{all_before}
use Rattle.fx_series.proofs.InBlock.{less_is}
use Rattle.fx_series.proofs.blocks.ends_before.Goals as goal

pub returns-in-len1-up-clause-yes : goal.returns-in-len1-up-clause-yes
returns-in-len1-up-clause-yes c = λ yes.
    let bs = c.args.blocks.now in
    let last = c.last-item.result in
    let time : to_z w64 (of_z w64 c.args.time) ≡ c.args.time = to_z-of_z w64 c.args.time c.ranges.time in
    let ends : is_lt (int_cmp (last_time (get_or bs (length bs - 1) last)) c.args.time) ≡ true =
    (λ i. is_lt (int_cmp (last_time (sym c.last-item.is i)) (sym time i))) ∙ sym c.ends_before.ensures ∙ yes in
    all_before bs last c.args.time (omega (arith, c.in-len1-up.len_at_least)) c.requires.are (less_is (last_time (get_or bs (length bs - 1) last)) c.args.time ends)
