-- The labels of the rows that tell follow those of the key.
use Rattle.std.proofs.Common.{◌∙◌, [], map, sym}
use Rattle.std.specs.FinMap as map
use Rattle.std.specs.List.{flat_map, fold}
use Rattle.std.specs.BTreeSet.{insert_key}
use Rattle.std.proofs.lemmas.Grind.{fold-append}
use Rattle.fx_csv.specs.Columns.{column_cmp}
use Rattle.fx_csv.specs.Printed.{key_labels}
use Rattle.fx_csv.proofs.names.column_names.Goals as goal

pub returns : goal.returns
returns c =
    let table = c.args.table.now in
    c.in_ok-add_rows.ensures
    ∙ c.telling.ensures c.in_ok-names.names.keys
    ∙ (λ i. fold (insert_key column_cmp) (c.in_ok-names.ensures i) (flat_map map.keys (c.as_slice-2.ensures i)))
    ∙ (λ i. fold (insert_key column_cmp) (fold (insert_key column_cmp) [] (map (λ e. e.label) (c.as_slice.ensures i))) (flat_map map.keys table.rows))
    ∙ sym (fold-append (insert_key column_cmp) [] (key_labels table) (flat_map map.keys table.rows))
