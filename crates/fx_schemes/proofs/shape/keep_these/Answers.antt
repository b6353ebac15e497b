use Rattle.std.proofs.Common.{ap, ◌∙◌, [], ◌∷◌, None}
use Rattle.std.specs.Prelude.{codes}
use Rattle.fx_schemes.specs.Plan.{cells_of}
use Rattle.fx_schemes.specs.Scheme.{shown}
use Rattle.fx_schemes.proofs.ListLaws.{keep_law}
use Rattle.fx_schemes.proofs.Results.{along}
use Rattle.fx_schemes.proofs.SchemeLaws.{by_scheme, same_closed}
use Rattle.fx_schemes.proofs.shape.keep_these.Goals as goal

pub returns : goal.returns
returns c =
    by_scheme _ c.closed.result _
    (along shown c.closed.result _ _
    (same_closed (codes "columns" ∷ []) [] [] None _ _ _ _ _ _ c.in_ok-room.ensures (ap cells_of c.deref.ensures.value ∙ c.in_ok-cells.ensures) (ap cells_of c.deref-2.ensures.value ∙ c.in_ok-cells.ensures)) c.closed.ensures)
    (keep_law _)
