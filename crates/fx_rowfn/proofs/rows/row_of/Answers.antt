use Rattle.std.proofs.Common.{◌≡◌, map, subst, sym, rules}
use Rattle.std.specs.FinMap.{empty}
use Rattle.std.specs.Prelude.{Err}
use Rattle.fx_meaning.specs.Rows.{Row, row_from}
use Rattle.fx_values.specs.Shape.{slot, slots_of}
use Rattle.fx_values.specs.Told.{Tells}
use Rattle.fx_rowfn.proofs.RowLaws.{row_on, row_stops}
use Rattle.fx_rowfn.proofs.rows.row_of.Goals as goal

pub returns-in_err-row-2 : goal.returns-in_err-row-2
returns-in_err-row-2 c =
    let whole = row_from empty (slots_of (map slot c.args.fields.now)) in
    let is : c.from_residual-in_err-row-2.result ≡ Err c.in_err-row-2.field-0.0 = search rules in
    subst (Tells {A = Row} (λ r. r) whole) (sym is)
    (row_stops whole c.loop-rest.row c.loop-rest.rest.now c.first-item.result c.in-len1-up.len_at_least c.first-item.is c.loop-rest.invariant c.in_err-row-2.field-0.0 c.in_err-row-2.ensures)

pub loop-rest-preserved : goal.loop-rest-preserved
loop-rest-preserved c =
    row_on (row_from empty (slots_of (map slot c.args.fields.now))) c.loop-rest.row c.loop-rest.rest.now c.first-item.result c.in-len1-up.len_at_least c.first-item.is c.loop-rest.invariant c.in_ok-row-2.row c.in_ok-row-2.ensures
