use Rattle.std.proofs.Common.{◌∙◌}
use Rattle.fx_types.proofs.ShapeLaws.{tail_var}
use Rattle.fx_schemes.proofs.Rolled.{stream_rolled, same_stream}
use Rattle.fx_schemes.proofs.terms.stream_over.Goals as goal

pub returns : goal.returns
returns c =
    stream_rolled _ _ _ c.in_ok-new.ensures ∙ same_stream _ _ _ _ c.in_ok-fields.ensures (tail_var c.args.row)
