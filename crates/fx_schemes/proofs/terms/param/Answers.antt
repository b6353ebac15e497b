use Rattle.std.proofs.Common.{ap, ◌∙◌}
use Rattle.fx_types.specs.Shape.{term}
use Rattle.fx_schemes.proofs.Rolled.{label_rolled}
use Rattle.fx_schemes.proofs.terms.param.Goals as goal

pub returns : goal.returns
returns c = label_rolled c.in_ok-of.field-0 c.args.ty ∙ ap (λ x. record { label = x; type = term c.args.ty }) c.in_ok-of.ensures
