use Rattle.std.proofs.Common.{◌∙◌}
use Rattle.fx_types.proofs.ShapeLaws.{field_is}
use Rattle.fx_schemes.proofs.Rolled.{entry_rolled, same_entry}
use Rattle.fx_infer.proofs.terms.entry.Goals as goal

pub returns : goal.returns
returns c = entry_rolled c.in_ok-copy.field-0 _ ∙ same_entry _ _ _ _ c.in_ok-copy.ensures (field_is c.args.ty)
