use Rattle.std.proofs.Common.{ap, ◌∙◌}
use Rattle.fx_types.specs.Shape.{rest_term}
use Rattle.fx_types.proofs.ShapeLaws.{tail_var}
use Rattle.fx_unify.proofs.store.Store.free_row.Goals as goal

pub returns-in-None : goal.returns-in-None
returns-in-None c = (ap rest_term c.in-Var.is ∙ tail_var c.in-Var.row, c.in-None.ensures)
