use Rattle.std.proofs.Common.{◌<◌, length, ap, sym, ◌∙◌, arith}
use Rattle.std.proofs.Math.ListN.{set}
use Rattle.std.proofs.lemmas.List.Edits.{map_over_more}
use Rattle.fx_window.specs.Cut.{within}
use Rattle.fx_window.proofs.cutting.all_within.Goals as goal

pub loop-placed-preserved : goal.loop-placed-preserved
loop-placed-preserved c =
    let ps = c.deref_mut-placed-items.result.now in
    let after = within c.args.bounds in
    let here : c.loop-placed.placed-index < length ps = omega arith in
    ap (set c.loop-placed.placed-items c.loop-placed.placed-index) (c.put_within.ensures ∙ ap after (sym c.placed-item.is))
    ∙ map_over_more after ps c.loop-placed.placed-items c.loop-placed.placed-index c.placed-item.result here c.loop-placed.invariant c.placed-item.is
