use Rattle.std.proofs.Common.{◌≡◌, map}
use Rattle.std.specs.List.{AllByRecursion}
use Rattle.fx_data.specs.Gathered.{grouped}
use Rattle.fx_data.specs.Regrouped.{alone, all_joined}
use Rattle.fx_data.specs.Table.{HasRisingLabels}
use Rattle.fx_data.proofs.regrouping.runs_of.Given as goal

abbrev pub invariant-loop-keyed : goal.invariant-loop-keyed
invariant-loop-keyed l = record {
  same : all_joined l.runs (map alone l.keyed-iterator.rest.items) ≡ grouped (map alone l.fn.rows);
  rising : AllByRecursion (λ r. HasRisingLabels r.key) l.keyed-iterator.rest.items;
}
