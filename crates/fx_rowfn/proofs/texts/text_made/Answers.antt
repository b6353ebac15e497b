use Rattle.std.proofs.Common.{Global, ap, sym, ◌∙◌}
use Rattle.std.specs.Prelude.{option_map}
use Rattle.std.specs.String.{string_bytes}
use Rattle.fx_meaning.specs.Operators.{text_made}
use Rattle.fx_value.specs.Ends.{Gives}
use Rattle.fx_value.specs.declared.scalar.Scalar.TheVariants as scalar
use Rattle.fx_values.proofs.ValueLaws.{val_cell}
use Rattle.fx_rowfn.proofs.texts.text_made.Goals as goal

pub returns-in-None : goal.returns-in-None
returns-in-None c = ap (λ o. text_made c.args.place (option_map (string_bytes {Z = Global}) o)) c.in-None.is ∙ ap (λ v. Gives v 0) (sym (val_cell scalar.Null))
