use Rattle.std.proofs.Common.{map}
use Rattle.fx_line.specs.Stored.{id_of, first_seen}
use Rattle.fx_series.proofs.ValueKinds.{values-of_kind}
use Rattle.fx_series.proofs.laws.values_are_of_the_kind.Goals as goal

pub returns : goal.returns
returns c = λ stored. values-of_kind stored (first_seen (map id_of stored))
