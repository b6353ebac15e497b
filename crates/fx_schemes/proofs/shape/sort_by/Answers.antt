use Rattle.std.proofs.Common.{ap, ◌∙◌, refl, [], ◌∷◌}
use Rattle.std.specs.Prelude.{codes}
use Rattle.fx_schemes.specs.Plan.{cells_of}
use Rattle.fx_schemes.specs.Scheme.{shown}
use Rattle.fx_schemes.proofs.ListLaws.{descending, sort_law}
use Rattle.fx_schemes.proofs.Results.{along}
use Rattle.fx_schemes.proofs.SchemeLaws.{by_scheme, same_over}
use Rattle.fx_schemes.proofs.shape.sort_by.Goals as goal

pub returns : goal.returns
returns c =
    by_scheme _ c.over.result _
    (along shown c.over.result _ _ (same_over (codes "columns" ∷ []) [] descending _ _ _ _ [] [] c.in_ok-room.ensures (ap cells_of c.deref.ensures.value ∙ c.in_ok-asked.ensures) refl) c.over.ensures)
    (sort_law _)
