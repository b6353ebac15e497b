-- The cells show what the rows' records say.
use Rattle.std.proofs.Common.{◌≡◌, ◌∙◌, ◌++◌, map, ap, subst, OnOk}
use Rattle.std.specs.List.{flat_map}
use Rattle.fx_csv.specs.Printed.{row_record}
use Rattle.fx_csv.specs.Records.{record_bytes}
use Rattle.fx_csv.specs.Rows.{cell_of, record_of}
use Rattle.fx_csv.specs.Templates.{template_text}
use Rattle.fx_csv.proofs.LawfulRows.{rows_are}
use Rattle.fx_csv.proofs.rows.put_table.Goals as goal

pub returns : goal.returns
returns c =
    let number = c.args.number in
    let table = c.args.table.now in
    let cells : c.as_slice-2.result.now ≡ map (λ c. cell_of table.key.entries c.label) c.args.columns.now
    = c.as_slice-2.ensures.value ∙ c.in_ok-cells.ensures ∙ ap (λ es. map (λ c. cell_of es c.label) c.args.columns.now) c.as_slice.ensures in
    let same : flat_map (λ row. template_text row c.in_ok-template.template) c.as_slice-3.result.now ≡ flat_map record_bytes (map (row_record number table) table.rows)
    = (λ i. flat_map (λ row. c.in_ok-template.ensures row i) c.as_slice-3.result.now)
    ∙ (λ i. flat_map (λ row. record_bytes (record_of number (cells i) row)) (c.as_slice-3.ensures i))
    ∙ rows_are number table c.args.columns.now c.requires.labels table.rows c.requires.lawful.columns in
    subst (λ bs. OnOk c.put_rows.result (c.put_rows.new.out.items ≡ c.args.out.now.items ++ bs)) same c.put_rows.ensures
