use Rattle.std.proofs.Common.{ap, ◌∙◌, refl, []}
use Rattle.fx_schemes.specs.Plan.{cells_of}
use Rattle.fx_schemes.specs.Scheme.{shown}
use Rattle.fx_schemes.proofs.ListLaws.{group_labels, group_law}
use Rattle.fx_schemes.proofs.Results.{along}
use Rattle.fx_schemes.proofs.SchemeLaws.{by_scheme, same_over}
use Rattle.fx_schemes.proofs.shape.group_by.Goals as goal

pub returns : goal.returns
returns c =
    by_scheme _ c.over.result _
    (along shown c.over.result _ _ (same_over group_labels [] [] _ _ _ _ [] [] c.in_ok-room.ensures (ap cells_of c.deref.ensures.value ∙ c.in_ok-asked.ensures) refl) c.over.ensures)
    (group_law _)
