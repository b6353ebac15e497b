use Rattle.std.proofs.Common.{ap, ◌∙◌}
use Rattle.fx_types.specs.Term.{default}
use Rattle.fx_types.proofs.ShapeLaws.{tail_default}
use Rattle.fx_schemes.proofs.Rolled.{stream_rolled, same_stream}
use Rattle.fx_schemes.proofs.terms.stream_else.Goals as goal

pub returns : goal.returns
returns c =
    stream_rolled _ _ _ c.in_ok-new.ensures
    ∙ same_stream _ _ _ _ c.in_ok-fields.ensures (tail_default c.in_ok-cell_ty.field-0 ∙ ap default c.in_ok-cell_ty.ensures)
