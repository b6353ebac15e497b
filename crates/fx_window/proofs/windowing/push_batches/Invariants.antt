use Rattle.std.proofs.Common.{◌≡◌}
use Rattle.std.specs.List.{flat_map}
use Rattle.fx_group.specs.Turned.{with_rows}
use Rattle.fx_window.specs.Reaches.{AllBatches, copies_of, made_of}
use Rattle.fx_window.proofs.windowing.push_batches.Given as goal

abbrev pub invariant-loop-batch : goal.invariant-loop-batch
invariant-loop-batch l = record {
  same : with_rows l.runs (flat_map (made_of (λ reach. copies_of l.frame.every l.frame.period reach l.key)) l.batch-iterator.rest.items)
      ≡ with_rows l.fn.runs (flat_map (made_of (λ reach. copies_of l.frame.every l.frame.period reach l.key)) l.fn.batches.items);
  all : AllBatches l.frame.every l.frame.period l.key.entries l.batch-iterator.rest.items;
}
