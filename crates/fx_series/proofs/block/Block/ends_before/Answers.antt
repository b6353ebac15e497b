use Rattle.std.proofs.Common.{◌≡◌, ◌-◌, length, get_or, sym, ap, ◌∙◌, rules, int_lt, is_lt, int_cmp}
use Rattle.std.specs.Prelude.{FitsSigned}
use Rattle.std.specs.Int.{w64}
use Rattle.std.proofs.lemmas.Int.{to_z-of_z}
use Rattle.fx_series.specs.declared.series.TimeValue.{TimeValue}
use Rattle.fx_series.specs.Blocks.{last_time}
use Rattle.fx_series.proofs.InBlock.{lt_test, last_is}
use Rattle.fx_series.proofs.block.Block.ends_before.Goals as goal

pub returns : goal.returns
returns c =
    let x = c.index.result.now in
    let vs = c.args.self.now in
    let fits : FitsSigned w64 x.time = search rules in
    let own = to_z-of_z w64 x.time fits in
    let time = to_z-of_z w64 c.args.time c.ranges.time in
    let items : c.self.inside.points.items ≡ vs = c.self.view_is in
    let long : c.len.result ≡ length vs = search rules in
    let at : x.time ≡ last_time vs = ap (λ (p : TimeValue). p.time) c.index.ensures ∙ (λ i. (get_or (items i) (long i - 1) x).time) ∙ last_is vs x c.requires.some in
    (λ i. int_lt (own i) (time i)) ∙ lt_test x.time c.args.time ∙ ap (λ t. is_lt (int_cmp t c.args.time)) at
