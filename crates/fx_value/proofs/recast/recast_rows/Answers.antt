use Rattle.std.proofs.Common.{◌<◌, length, ap, sym, ◌∙◌, arith}
use Rattle.std.proofs.Math.ListN.{set}
use Rattle.std.proofs.lemmas.List.Edits.{map_over_more}
use Rattle.fx_value.proofs.recast.recast_rows.Goals as goal

pub loop-row-preserved : goal.loop-row-preserved
loop-row-preserved g c =
    let rows = c.deref_mut-row-items.result.now in
    let after = g.R.Recast.of_row c.args.recast.now in
    let within : c.loop-row.row-index < length rows = omega arith in (
      ap (set c.loop-row.row-items c.loop-row.row-index) (c.in_ok-recast.ensures.row ∙ ap after (sym c.row-item.is))
          ∙ map_over_more after rows c.loop-row.row-items c.loop-row.row-index c.row-item.result within c.loop-row.invariant.0 c.row-item.is,
      c.in_ok-recast.ensures.known,
    )
