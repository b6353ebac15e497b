use Rattle.std.proofs.Common.{ap, ◌∙◌, refl, [], ◌∷◌}
use Rattle.std.specs.Prelude.{codes}
use Rattle.fx_schemes.specs.Plan.{cells_of}
use Rattle.fx_schemes.specs.Scheme.{shown}
use Rattle.fx_schemes.proofs.ListLaws.{drop_law}
use Rattle.fx_schemes.proofs.Results.{along}
use Rattle.fx_schemes.proofs.SchemeLaws.{by_scheme, same_over, free}
use Rattle.fx_schemes.proofs.shape.drop_these.Goals as goal

pub returns : goal.returns
returns c =
    by_scheme _ c.over.result _
    (along shown c.over.result _ _ (same_over (codes "columns" ∷ []) [] [] (free 1) (free 1) [] [] _ _ refl refl (ap cells_of c.deref.ensures.value ∙ c.in_ok-made.ensures)) c.over.ensures)
    (drop_law _)
