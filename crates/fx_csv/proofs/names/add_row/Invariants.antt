use Rattle.std.proofs.Common.{◌≡◌, take}
use Rattle.std.specs.List.{fold}
use Rattle.std.specs.BTreeSet.{insert_key}
use Rattle.fx_csv.specs.Columns.{column_cmp}
use Rattle.fx_csv.proofs.names.add_row.Given as goal

abbrev pub invariant-loop-label : goal.invariant-loop-label
invariant-loop-label l =
    l.names.keys ≡ fold (insert_key column_cmp) l.initial.names.keys (take l.label-index l.label-items)
