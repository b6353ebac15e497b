use Rattle.std.proofs.Common.{◌≡◌, take}
use Rattle.std.specs.FinMap as map
use Rattle.std.specs.List.{flat_map, fold}
use Rattle.std.specs.BTreeSet.{insert_key}
use Rattle.fx_csv.specs.Columns.{column_cmp}
use Rattle.fx_csv.proofs.names.add_rows.Given as goal

abbrev pub invariant-loop-i : goal.invariant-loop-i
invariant-loop-i l =
    l.names.keys ≡ fold (insert_key column_cmp) l.initial.names.keys (flat_map map.keys (take l.i l.rows))
