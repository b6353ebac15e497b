use Rattle.std.proofs.Common.{◌∙◌}
use Rattle.fx_scan.specs.Tables.{unit_of, units}
use Rattle.fx_scan.proofs.units.unit_of.Goals as goal

pub returns : goal.returns
unfolding unit_of units
returns c = c.copied.ensures ∙ rw c.in-Some.ensures.1 at c.find.ensures
