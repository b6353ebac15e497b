use Rattle.std.proofs.Common.{◌≡◌, subst, sym, map, ◌∙◌, rules}
use Rattle.std.specs.Prelude.{Err}
use Rattle.fx_meaning.specs.Forms.{cell_in}
use Rattle.fx_meaning.specs.Natives.{cells_in}
use Rattle.fx_value.specs.declared.scalar.Scalar.{Scalar}
use Rattle.fx_values.specs.Shape.{val, vals_of}
use Rattle.fx_values.specs.Told.{Tells}
use Rattle.fx_values.proofs.EachLaws.{all_made, cells_each, made_stops}
use Rattle.fx_values.proofs.natives.cells_in.Goals as goal

pub returns-in_err-cell : goal.returns-in_err-cell
returns-in_err-cell c =
    let same : c.from_residual.result ≡ Err c.in_err-cell.field-0.0 = search rules in
    subst (λ r. Tells (λ found. found) (cells_in (vals_of (map val c.args.items.now))) r) (sym same)
    (subst (λ e. Tells (λ found. found) e (Err c.in_err-cell.field-0.0)) (cells_each c.args.items.now)
    (made_stops (λ v. cell_in (val v)) (λ (a : Scalar). a) (λ found. found) c.args.items.now c.loop-item.item-index c.loop-item.cells c.item-item.result
    c.in_err-cell.field-0.0 c.loop-item-test.true c.item-item.is c.loop-item.invariant c.in_err-cell.ensures))

pub returns : goal.returns
returns c =
    sym (cells_each c.args.items.now)
    ∙ all_made (λ v. cell_in (val v)) c.args.items.now c.loop-item.item-index c.loop-item.cells c.loop-item-test.false c.loop-item.invariant
