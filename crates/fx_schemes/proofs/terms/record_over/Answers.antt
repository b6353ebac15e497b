use Rattle.std.proofs.Common.{◌∙◌}
use Rattle.fx_types.proofs.ShapeLaws.{tail_var}
use Rattle.fx_schemes.proofs.Rolled.{rec_rolled, same_rec}
use Rattle.fx_schemes.proofs.terms.record_over.Goals as goal

pub returns : goal.returns
returns c = rec_rolled _ _ _ c.in_ok-new.ensures ∙ same_rec _ _ _ _ c.in_ok-fields.ensures (tail_var c.args.row)
