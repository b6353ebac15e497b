use Rattle.std.proofs.Common.{refl}
use Rattle.fx_types.specs.Shape.{term}
use Rattle.fx_schemes.proofs.Results.{along}
use Rattle.fx_schemes.proofs.Rolled.{same_two}
use Rattle.fx_schemes.proofs.joins.of_sides.Goals as goal

pub returns : goal.returns
returns c = along term c.of_two.result _ _ (same_two _ _ _ _ _ _ c.in_ok-left.ensures c.in_ok-right.ensures refl) c.of_two.ensures
