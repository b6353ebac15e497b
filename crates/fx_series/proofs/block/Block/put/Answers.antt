use Rattle.std.proofs.Common.{◌≡◌, ◌<◌, ℤ, List, get_or, sym, ap, ◌∙◌, arith, rules, length, subst, to_z, of_z}
use Rattle.std.proofs.Math.ListN.{set}
use Rattle.std.specs.Prelude.{FitsSigned}
use Rattle.std.specs.Int.{w64}
use Rattle.std.specs.List.{insert}
use Rattle.std.specs.declared.cmp.Ordering.TheVariants.{Less}
use Rattle.std.specs.Ordering.{int_cmp}
use Rattle.std.specs.BTreeMap.{insert_entry}
use Rattle.std.proofs.lemmas.Int.{to_z-of_z}
use Rattle.fx_series.specs.declared.series.TimeValue.{TimeValue}
use Rattle.fx_series.specs.Blocks.{IsPlace}
use Rattle.fx_series.specs.Read.{pairs}
use Rattle.fx_series.proofs.InBlock.{set_there, insert_there, behind, get_or_any}
use Rattle.fx_series.proofs.block.Block.put.Goals.{else-place-len-via-then-place-len+else-index-time, else-place-len-via-else-place-len}
use Rattle.fx_series.proofs.block.Block.put.Goals as goal

pub returns-then-index-time-clause-ok : goal.returns-then-index-time-clause-ok
returns-then-index-time-clause-ok c =
    let ps = c.self.inside.points.items in
    let place = c.place_of-place.result in
    let x = c.index.result.now in
    let im = c.index_mut.result.now in
    let time = c.args.time in
    let value = c.args.value in
    let when : to_z w64 (of_z w64 time) ≡ time = to_z-of_z w64 time c.ranges.time in
    let fits : FitsSigned w64 x.time = search rules in
    let p : IsPlace ps time place = subst (λ (t : ℤ). IsPlace ps t place) when (subst (λ (l : List TimeValue). IsPlace l (to_z w64 (of_z w64 time)) place) c.as_slice.ensures.value c.place_of-place.ensures) in
    let within : place < length ps = omega (arith, c.if-place-len.true) in
    let tied : x.time ≡ time = sym (to_z-of_z w64 x.time fits) ∙ ap (to_z w64) c.if-index-time.true ∙ when in
    let same : (get_or ps place x).time ≡ time = ap (λ (q : TimeValue). q.time) (sym c.index.ensures) ∙ tied in
    let kept : im.time ≡ (get_or ps place x).time = ap (λ (q : TimeValue). q.time) (c.index_mut.ensures.value ∙ get_or_any ps place im x within) in
    ap (λ (t : ℤ). pairs (set ps place (record { time = t; value = value }))) kept
    ∙ set_there ps place x time value p.below within same
    ∙ ap (λ (l : List TimeValue). insert_entry int_cmp (pairs l) time value) c.self.view_is

pub returns-clause-ok : goal.returns-clause-ok
returns-clause-ok c =
    let ps = c.self.inside.points.items in
    let place = c.place_of-place.result in
    let time = c.args.time in
    let value = c.args.value in
    let when : to_z w64 (of_z w64 time) ≡ time = to_z-of_z w64 time c.ranges.time in
    let p : IsPlace ps time place = subst (λ (t : ℤ). IsPlace ps t place) when (subst (λ (l : List TimeValue). IsPlace l (to_z w64 (of_z w64 time)) place) c.as_slice.ensures.value c.place_of-place.ensures) in
    let above : (d : TimeValue) → place < length ps → int_cmp time (get_or ps place d).time ≡ Less = elim c.else-place-len.branch [
      | else-place-len-via-then-place-len+else-index-time w ↦ λ d within.
          behind (get_or ps place d).time time (p.above d within)
          (λ e. w.if-index-time.false (ap (λ (q : TimeValue). of_z w64 q.time) (w.index.ensures ∙ get_or_any ps place w.index.result.now d within) ∙ ap (of_z w64) e))
      | else-place-len-via-else-place-len w ↦ λ d within. absurd (omega (arith, w.if-place-len.false))
    ] in
    ap pairs (c.in_ok-insert.ensures.items ∙ ap (λ (t : ℤ). insert ps place (record { time = t; value = value })) when)
    ∙ insert_there ps place time value p.below above
    ∙ ap (λ (l : List TimeValue). insert_entry int_cmp (pairs l) time value) c.self.view_is
