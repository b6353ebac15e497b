use Rattle.std.proofs.Common.{◌∙◌, ap, map}
use Rattle.fx_types.specs.Shape.{entry_term}
use Rattle.fx_schemes.specs.Plan.{entry_of}
use Rattle.fx_schemes.proofs.Lists.{pushed_seen}
use Rattle.fx_schemes.proofs.Rolled.{entry_rolled, same_entry}
use Rattle.fx_schemes.proofs.terms.fields.Goals as goal

pub loop-cell-preserved : goal.loop-cell-preserved
loop-cell-preserved c =
    let entry = entry_rolled c.in_ok-of.field-0 c.in_ok-cell_ty.field-0 ∙ same_entry _ _ _ _ c.in_ok-of.ensures c.in_ok-cell_ty.ensures in
    ap (map entry_term) c.in_ok-push.ensures.ok
    ∙ pushed_seen entry_term _ entry_of c.args.cells.now c.loop-cell.cell-index _ c.loop-cell.fields _ c.loop-cell-test.true entry c.loop-cell.invariant
