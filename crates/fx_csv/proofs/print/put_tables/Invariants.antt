use Rattle.std.proofs.Common.{◌≡◌, ◌++◌, take}
use Rattle.std.specs.List.{flat_map}
use Rattle.fx_csv.specs.Printed.{row_records}
use Rattle.fx_csv.specs.Records.{record_bytes}
use Rattle.fx_csv.proofs.print.put_tables.Given as goal

abbrev pub invariant-loop-i : goal.invariant-loop-i
invariant-loop-i l = l.out.items ≡ l.initial.out.items ++ flat_map record_bytes (row_records l.number (take l.i l.tables))
