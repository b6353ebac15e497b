-- The first of many values that are one value is that value.
use Rattle.std.proofs.Common.{◌≡◌, ◌∙◌, Some, ap, sym}
use Rattle.fx_csv.specs.Printed.{pinned_value}
use Rattle.fx_csv.proofs.ColumnKinds.{pinned_kind, some_left}
use Rattle.fx_csv.proofs.kind.kind_in.Goals as goal

pub returns-in-Some-2 : goal.returns-in-Some-2
returns-in-Some-2 c =
    let found : pinned_value c.args.table.now.key.entries c.args.label.now ≡ Some c.in-Some.field-0.now
    = sym (c.in-Some.ensures ∙ ap (λ es. pinned_value es c.args.label.now) c.as_slice.ensures) in
    c.kind.ensures
    ∙ pinned_kind c.args.label.now c.args.table.now c.in-Some.field-0.now found
    (some_left c.as_slice-rows.result.now c.args.table.now.rows c.if-is_empty.ensures c.as_slice-rows.ensures)
