use Rattle.std.proofs.Common.{◌≡◌, ◌++◌, List}
use Rattle.std.specs.List.{flat_map, AllByRecursion}
use Rattle.fx_data.specs.Table.{HasKey}
use Rattle.fx_data.specs.declared.key.Key.{Key}
use Rattle.fx_data.specs.declared.key.KeyEntry.{KeyEntry}
use Rattle.fx_window.specs.Reaches.{AllBatches, copies_of, made_of}
use Rattle.fx_window.specs.Window.{copies}
use Rattle.fx_window.proofs.batch.batches_of.Given as goal

abbrev pub invariant-loop-placed : goal.invariant-loop-placed
invariant-loop-placed l = record {
  made : (key : Key) → (flat_map (made_of (λ r. copies_of l.frame.every l.frame.period r key)) l.batches.items ++ flat_map (copies l.frame.every l.frame.period key) l.placed-iterator.rest.items)
      ≡ flat_map (copies l.frame.every l.frame.period key) l.fn.placed.items;
  all : (entries : List KeyEntry) → AllByRecursion (λ p. HasKey entries p.row) l.fn.placed.items
      → AllBatches l.frame.every l.frame.period entries l.batches.items × AllByRecursion (λ p. HasKey entries p.row) l.placed-iterator.rest.items;
}
