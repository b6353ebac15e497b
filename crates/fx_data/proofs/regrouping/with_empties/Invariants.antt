use Rattle.std.proofs.Common.{◌≡◌, map}
use Rattle.std.specs.List.{AllByRecursion}
use Rattle.fx_data.specs.Regrouped.{bare, all_joined}
use Rattle.fx_data.specs.Table.{HasRisingLabels}
use Rattle.fx_data.proofs.regrouping.with_empties.Given as goal

abbrev pub invariant-loop-key : goal.invariant-loop-key
invariant-loop-key l = record {
  same : all_joined l.runs (map bare l.key-iterator.rest.items) ≡ all_joined l.fn.runs (map bare l.fn.empties);
  rising : AllByRecursion HasRisingLabels l.key-iterator.rest.items;
}
