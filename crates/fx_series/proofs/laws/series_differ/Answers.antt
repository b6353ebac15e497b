use Rattle.std.proofs.Common.{map, subst, sym}
use Rattle.std.specs.List.{IsDistinct}
use Rattle.fx_line.specs.Stored.{same_id, id_of}
use Rattle.fx_series.proofs.Grouped.{ids-grouped, first_seen-distinct}
use Rattle.fx_series.proofs.laws.series_differ.Goals as goal

pub returns : goal.returns
returns c = λ stored. subst (IsDistinct same_id) (sym (ids-grouped stored)) (first_seen-distinct (map id_of stored))
