use Rattle.std.proofs.Common.{◌≡◌, List, [], ◌∷◌, ◌++◌, sym, ap, subst, ◌∙◌, append_assoc, rules}
use Rattle.std.specs.Prelude.{Err}
use Rattle.fx_pivot.proofs.Gathers.{item_gives, item_unstuck}
use Rattle.fx_group.specs.Answer.{Row}
use Rattle.fx_value.specs.Calls.{Told}
use Rattle.fx_value.specs.Ends.{End, Gives, and_then}
use Rattle.fx_value.specs.Works.{into}
use Rattle.fx_value.proofs.Loops.{told_then, told_unstuck}
use Rattle.fx_pivot.specs.Cells.{cell_of, cells_of}
use Rattle.fx_pivot.specs.declared.cell.Cell.{Cell}
use Rattle.fx_pivot.proofs.Pivoted.{item_stops}
use Rattle.fx_pivot.proofs.cell.cells_of.Goals as goal

pub cell_of-requires : goal.cell_of-requires
cell_of-requires c =
    let one : Row → End Cell = cell_of c.args.place c.args.rows.now c.args.columns.now c.args.value.now c.args.key.now in
    told_unstuck (one c.in-Some.row) (λ cell. Gives (cell ∷ []) 0)
    (item_unstuck ◌++◌ (λ row. and_then (one row) (λ cell. Gives (cell ∷ []) 0)) (cells_of c.args.place c.args.rows.now c.args.columns.now c.args.value.now c.args.key.now c.args.all)
    c.loop-row.cells.items c.loop-row.row-iterator.rest.items c.loop-row.invariant c.in-Some.row c.next.new.self.rest.items c.in-Some.ensures.steps.0 c.requires)

pub returns-in_err-cell : goal.returns-in_err-cell
returns-in_err-cell c =
    let one : Row → End Cell = cell_of c.args.place c.args.rows.now c.args.columns.now c.args.value.now c.args.key.now in
    let whole = cells_of c.args.place c.args.rows.now c.args.columns.now c.args.value.now c.args.key.now c.args.all in
    let why = c.in_err-cell.field-0.0 in
    let same : c.from_residual.result ≡ Err c.in_err-cell.field-0.0 = search rules in
    subst (Told whole) (sym same)
    (item_stops one whole c.loop-row.cells.items c.loop-row.row-iterator.rest.items c.loop-row.invariant c.in-Some.row c.next.new.self.rest.items c.in-Some.ensures.steps.0
    why c.in_err-cell.ensures)

pub loop-row-preserved : goal.loop-row-preserved
loop-row-preserved c =
    let one : Row → End Cell = cell_of c.args.place c.args.rows.now c.args.columns.now c.args.value.now c.args.key.now in
    let pushed : c.push.new.self.items ≡ c.loop-row.cells.items ++ c.in_ok-cell.cell ∷ [] = search rules in
    item_gives ◌++◌ (λ row. and_then (one row) (λ cell. Gives (cell ∷ []) 0)) (cells_of c.args.place c.args.rows.now c.args.columns.now c.args.value.now c.args.key.now c.args.all)
    c.loop-row.cells.items c.loop-row.row-iterator.rest.items c.loop-row.invariant c.in-Some.row c.next.new.self.rest.items c.in-Some.ensures.steps.0
    (λ xs ys zs. sym (append_assoc xs ys zs)) (c.in_ok-cell.cell ∷ []) (told_then (one c.in-Some.row) (λ cell. Gives (cell ∷ []) 0) c.in_ok-cell.cell c.in_ok-cell.ensures)
    ∙ ap (λ (cells : List Cell). into ◌++◌ cells (cells_of c.args.place c.args.rows.now c.args.columns.now c.args.value.now c.args.key.now c.next.new.self.rest.items)) (sym pushed)
