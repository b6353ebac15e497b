use Rattle.fx_types.specs.Shape.{term}
use Rattle.fx_schemes.proofs.Results.{along}
use Rattle.fx_schemes.proofs.Rolled.{same_two}
use Rattle.fx_schemes.proofs.rows.step.Goals as goal

pub returns : goal.returns
returns c =
    along term c.of_two.result _ _ (same_two _ _ _ _ _ _ c.in_ok-row.ensures c.in_ok-before.ensures c.in_ok-record_over.ensures) c.of_two.ensures
