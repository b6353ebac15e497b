use Rattle.std.proofs.Common.{◌<◌, length, ap, sym, ◌∙◌, arith}
use Rattle.std.proofs.Math.ListN.{set}
use Rattle.std.proofs.lemmas.List.Edits.{map_over_more}
use Rattle.fx_shape.specs.Content.{given}
use Rattle.fx_shape.specs.declared.giving.Content.TheVariants as content
use Rattle.fx_shape.proofs.giving.rows_filled.Goals as goal

pub loop-row-preserved : goal.loop-row-preserved
loop-row-preserved c =
    let rows = c.deref_mut-row-items.result.now in
    let after = given (content.Default c.args.value.now) c.args.label.now in
    let within : c.loop-row.row-index < length rows = omega arith in
    ap (set c.loop-row.row-items c.loop-row.row-index) (c.in_ok-fill_row.ensures ∙ ap after (sym c.row-item.is))
    ∙ map_over_more after rows c.loop-row.row-items c.loop-row.row-index c.row-item.result within c.loop-row.invariant c.row-item.is
