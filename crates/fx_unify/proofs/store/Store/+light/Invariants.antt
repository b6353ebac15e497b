use Rattle.std.proofs.Common.{◌+◌, ◌*◌}
use Rattle.fx_unify.proofs.store.Store.+light.Given as goal

abbrev pub decreases-is_light_row : goal.decreases-is_light_row
decreases-is_light_row l = 2 * l.fuel + 1

abbrev pub decreases-is_light_rest : goal.decreases-is_light_rest
decreases-is_light_rest l = 2 * l.fuel + 2
