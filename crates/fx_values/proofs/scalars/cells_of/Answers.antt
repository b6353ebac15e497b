use Rattle.std.proofs.Common.{◌≡◌, List, [], get_or, subst, sym, map, ◌∙◌, rules}
use Rattle.std.specs.Prelude.{Err}
use Rattle.fx_meaning.specs.Forms.{each}
use Rattle.fx_meaning.specs.Forms.{cell_of}
use Rattle.fx_value.specs.declared.scalar.Scalar.{Scalar}
use Rattle.fx_values.specs.Shape.{slot, slots_of}
use Rattle.fx_values.specs.Told.{Tells}
use Rattle.fx_values.proofs.EachLaws.{all_made, each_map, made_stops, same_item}
use Rattle.fx_values.proofs.scalars.cells_of.Goals as goal

pub returns-in_err-cell : goal.returns-in_err-cell
returns-in_err-cell c =
    let same : c.from_residual.result ≡ Err c.in_err-cell.field-0.0 = search rules in
    let args = slots_of (map slot c.args.args.now) in
    let x = get_or c.args.labels.now c.loop-label.label-index (record { ref_ptr = (0, 0); now = [] }) in
    subst (λ r. Tells (λ (found : List Scalar). found) (each (λ x. cell_of x args) (map (λ label. label.now) c.args.labels.now)) r) (sym same)
    (subst (λ e. Tells (λ (found : List Scalar). found) e (Err c.in_err-cell.field-0.0)) (each_map (λ x. cell_of x args) (λ label. label.now) c.args.labels.now)
    (made_stops (λ x. cell_of x.now args) (λ (a : Scalar). a) (λ (found : List Scalar). found) c.args.labels.now c.loop-label.label-index c.loop-label.cells x
    c.in_err-cell.field-0.0 c.loop-label-test.true (same_item c.args.labels.now c.loop-label.label-index (record { ref_ptr = (0, 0); now = [] }) c.loop-label-test.true) c.loop-label.invariant c.in_err-cell.ensures))

pub returns : goal.returns
returns c =
    let args = slots_of (map slot c.args.args.now) in
    sym (each_map (λ x. cell_of x args) (λ label. label.now) c.args.labels.now)
    ∙ all_made (λ x. cell_of x.now args) c.args.labels.now c.loop-label.label-index c.loop-label.cells c.loop-label-test.false c.loop-label.invariant
