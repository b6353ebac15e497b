use Rattle.std.proofs.Common.{◌≡◌, [], map, take}
use Rattle.std.specs.List.{fold}
use Rattle.std.specs.BTreeSet.{insert_key}
use Rattle.fx_csv.specs.Columns.{column_cmp}
use Rattle.fx_csv.proofs.names.key_names.Given as goal

abbrev pub invariant-loop-entry : goal.invariant-loop-entry
invariant-loop-entry l =
    l.names.keys ≡ fold (insert_key column_cmp) [] (map (λ e. e.label) (take l.entry-index l.entries))
