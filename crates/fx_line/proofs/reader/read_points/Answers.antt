use Rattle.std.proofs.Common.{◌≡◌, List, sym, ap, ◌∙◌, subst}
use Rattle.std.specs.Prelude.{All}
use Rattle.fx_line.specs.Collected.{IsTextPair}
use Rattle.fx_line.specs.Line.{Written}
use Rattle.fx_line.proofs.reader.read_points.Goals as goal

pub points_of-requires-clause-text : goal.points_of-requires-clause-text
points_of-requires-clause-text c =
    let same : c.as_slice.result.now ≡ c.args.parts.now.fields = c.as_slice.ensures.value ∙ ap (λ (w : Written). w.fields) c.parts.view_is in
    subst (All IsTextPair) (sym same) c.requires.texts.fields
