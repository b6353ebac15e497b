use Rattle.std.proofs.Common.{◌≤◌, length, ap, arith, sym, ◌∙◌}
use Rattle.std.proofs.lemmas.Bool.{le-leb}
use Rattle.fx_value.specs.Ends.{Gives}
use Rattle.fx_value.specs.declared.scalar.Scalar.TheVariants.{Text}
use Rattle.fx_values.specs.Shape.{val}
use Rattle.fx_values.specs.declared.value.Value.TheVariants as v
use Rattle.fx_values.proofs.ValueLaws.{val_cell}
use Rattle.fx_rowfn.proofs.TextLaws.{text_fits}
use Rattle.fx_rowfn.proofs.texts.text_kept.Goals as goal

pub returns : goal.returns
returns c =
    let s = c.args.content.now in
    let below : length s ≤ 1_048_576 = omega (arith, ap length c.as_str.ensures) in
    text_fits c.args.place s (le-leb (length s) 1_048_576 below) ∙ ap (λ w. Gives w 0) (sym (val_cell (Text s)))
    ∙ ap (λ t. Gives (val (v.Cell (Text t))) 0) (sym c.in_ok-copy.ensures)
