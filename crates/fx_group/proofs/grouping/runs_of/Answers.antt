use Rattle.std.proofs.Common.{◌≡◌, List, map, sym, ap, ◌∙◌}
use Rattle.std.specs.FinMap as fin
use Rattle.std.specs.List.{flat_map}
use Rattle.fx_data.specs.Regrouped.{all_joined}
use Rattle.fx_data.specs.declared.table.Table.{Table}
use Rattle.fx_data.proofs.Regrouped.{joined_empty}
use Rattle.fx_group.specs.Answer.{Row}
use Rattle.fx_group.specs.Group.{picked_table}
use Rattle.fx_group.specs.Wanted.{picks}
use Rattle.fx_group.proofs.Grouped.{joined_rows}
use Rattle.fx_group.proofs.grouping.runs_of.Goals as goal

pub loop-table-init : goal.loop-table-init
loop-table-init c =
    let each = picked_table (picks c.args.columns.now c.args.except) in
    let rows : List Table → List Row = flat_map (λ t. t.rows) in
    let left = c.into_iter-table-iterator.result.rest.items in
    let all : left ≡ c.args.tables = c.into_iter-table-iterator.ensures.into_iter_gives.0 ∙ c.into_vec-table-items.ensures ∙ c.into_list.ensures.value in
    ap (λ groups. all_joined groups (map each (rows left))) c.empty-runs.ensures ∙ ap (λ (ts : List Table). all_joined fin.empty (map each (rows ts))) all
    ∙ joined_empty (map each (rows c.args.tables))

pub loop-table-preserved : goal.loop-table-preserved
loop-table-preserved c =
    let each = picked_table (picks c.args.columns.now c.args.except) in
    let rows : List Table → List Row = flat_map (λ t. t.rows) in
    let t = c.in-Some.table in
    let left = c.next.new.self.rest.items in
    ap (λ groups. all_joined groups (map each (rows left))) c.in_ok-runs.ensures ∙ sym (joined_rows each c.loop-table.runs t.rows (rows left))
    ∙ ap (λ (ts : List Table). all_joined c.loop-table.runs (map each (rows ts))) (sym c.in-Some.ensures.steps.0) ∙ c.loop-table.invariant
