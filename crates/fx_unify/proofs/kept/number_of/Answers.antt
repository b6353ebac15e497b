use Rattle.std.proofs.Common.{ap, ◌∙◌}
use Rattle.fx_types.specs.Shape.{term}
use Rattle.fx_types.proofs.ShapeLaws.{term_variable}
use Rattle.fx_unify.proofs.kept.number_of.Goals as goal

pub returns-in-Var : goal.returns-in-Var
returns-in-Var c = ap term c.in-Var.is ∙ term_variable c.in-Var.number
