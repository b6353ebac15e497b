use Rattle.std.proofs.Common.{ap, ◌∙◌}
use Rattle.fx_types.specs.Term.{array}
use Rattle.fx_types.specs.Shape.{term}
use Rattle.fx_types.proofs.ShapeLaws.{term_array}
use Rattle.fx_infer.proofs.terms.array_of.Goals as goal

pub returns : goal.returns
returns c = term_array c.in_ok-new.field-0 ∙ ap (λ t. array (term t)) c.in_ok-new.ensures
