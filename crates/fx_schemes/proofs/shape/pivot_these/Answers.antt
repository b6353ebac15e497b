use Rattle.std.proofs.Common.{ap, ◌∙◌, [], Some}
use Rattle.fx_schemes.specs.declared.simple.Simple.TheVariants as simple
use Rattle.fx_schemes.specs.Plan.{cells_of}
use Rattle.fx_schemes.specs.Scheme.{shown}
use Rattle.fx_schemes.proofs.PivotLaws.{pivot_labels, pivot_law}
use Rattle.fx_schemes.proofs.Results.{along}
use Rattle.fx_schemes.proofs.SchemeLaws.{by_scheme, same_closed}
use Rattle.fx_schemes.proofs.shape.pivot_these.Goals as goal

pub returns : goal.returns
returns c =
    by_scheme _ c.closed.result _
    (along shown c.closed.result _ _
    (same_closed pivot_labels [] [] (Some (simple.Var 0)) _ _ _ _ _ _ c.in_ok-room.ensures (ap cells_of c.deref.ensures.value ∙ c.in_ok-asked.ensures)
    (ap cells_of c.deref-2.ensures.value ∙ c.in_ok-made.ensures)) c.closed.ensures)
    (pivot_law _ _ _ c.requires)
