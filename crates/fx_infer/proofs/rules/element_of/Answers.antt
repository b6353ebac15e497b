use Rattle.std.proofs.Common.{ap, ◌∙◌}
use Rattle.fx_types.specs.Shape.{term}
use Rattle.fx_types.specs.Term.{array}
use Rattle.fx_infer.proofs.RuleLaws.{element_asked}
use Rattle.fx_infer.proofs.rules.element_of.Goals as goal

pub returns : goal.returns
returns c =
    element_asked c.args.bindings c.in_ok-element.element.bindings c.in_ok-tied.tied c.in_ok-bindings.bindings (term c.args.of.now) (term c.args.at.now) (term c.in_ok-element.element.ty) (term c.in_ok-array.array)
    (c.in_ok-array.ensures ∙ ap (λ t. array (term t)) c.in_ok-copy.ensures) c.requires.of c.requires.at c.in_ok-element.ensures c.in_ok-tied.ensures c.in_ok-bindings.ensures
