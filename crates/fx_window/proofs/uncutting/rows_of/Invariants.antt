use Rattle.std.proofs.Common.{◌≡◌, ◌++◌}
use Rattle.std.specs.List.{flat_map, AllByRecursion}
use Rattle.fx_data.specs.Table.{IsLawfulTable}
use Rattle.fx_window.specs.Plain.{uncut_all}
use Rattle.fx_window.proofs.uncutting.rows_of.Given as goal

abbrev pub invariant-loop-window : goal.invariant-loop-window
invariant-loop-window l = record {
  same : (l.rows.items ++ flat_map (uncut_all l.start l.stop) l.window-iterator.rest.items) ≡ flat_map (uncut_all l.start l.stop) l.fn.windows;
  lawful : AllByRecursion IsLawfulTable l.window-iterator.rest.items;
}
