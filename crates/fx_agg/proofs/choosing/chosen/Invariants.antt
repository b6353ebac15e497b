use Rattle.std.proofs.Common.{◌≡◌}
use Rattle.fx_agg.specs.Chosen.{stays, better, best}
use Rattle.fx_agg.proofs.choosing.chosen.Given as goal

abbrev pub invariant-loop-row : goal.invariant-loop-row
invariant-loop-row l = better (stays l.which) l.best (best (stays l.which) l.column l.row-iterator.rest.items) ≡ best (stays l.which) l.column l.fn.rows
