-- One more table adds the records of its rows.
use Rattle.std.proofs.Common.{◌∙◌, ◌+◌, ◌++◌, map, ap}
use Rattle.std.specs.List.{flat_map}
use Rattle.fx_csv.specs.Printed.{row_record}
use Rattle.fx_csv.specs.Records.{record_bytes}
use Rattle.fx_csv.proofs.Numbered.{next_table}
use Rattle.fx_csv.proofs.print.put_tables.Goals as goal

pub loop-i-preserved : goal.loop-i-preserved
loop-i-preserved c =
    let table = c.index-tables-i.result in
    c.in_ok-put_table.ensures
    ∙ ap (λ l. l ++ flat_map record_bytes (map (row_record (c.args.number + c.loop-i.i) table) table.rows)) c.loop-i.invariant
    ∙ next_table c.args.number c.args.tables.now c.loop-i.i table c.args.out.now.items c.loop-i-test.true c.index-tables-i.is
