use Rattle.std.proofs.Common.{◌≡◌, ◌∷◌, List, map, sym, ap, subst, ◌∙◌}
use Rattle.std.specs.FinMap as fin
use Rattle.std.specs.List.{flat_map, AllByRecursion}
use Rattle.fx_data.specs.Regrouped.{alone}
use Rattle.fx_data.specs.Table.{IsLawfulTable}
use Rattle.fx_data.specs.declared.table.Table.{Table}
use Rattle.fx_data.proofs.Regrouped.{joined_empty}
use Rattle.fx_group.specs.Turned.{with_rows}
use Rattle.fx_group.proofs.Turned.{with_both}
use Rattle.fx_shape.specs.Changed.{rows_after}
use Rattle.fx_shape.specs.Columns.{doubled}
use Rattle.fx_shape.proofs.doubling.runs_doubled.Goals as goal

pub loop-table-init : goal.loop-table-init
loop-table-init c =
    let each = rows_after (λ key. key) (doubled c.args.doubling.now.from c.args.doubling.now.to) in
    let left = c.into_iter-table-iterator.result.rest.items in
    let all : left ≡ c.args.tables = c.into_iter-table-iterator.ensures.into_iter_gives.0 ∙ c.into_vec-table-items.ensures ∙ c.into_list.ensures.value in
    record {
      same =
          ap (λ groups. with_rows groups (flat_map each left)) c.empty-runs.ensures ∙ ap (λ (ts : List Table). with_rows fin.empty (flat_map each ts)) all
          ∙ joined_empty (map alone (flat_map each c.args.tables));
      lawful = subst (AllByRecursion IsLawfulTable) (sym all) c.into_list.ensures.lawful.each;
    }

pub push_doubled-requires : goal.push_doubled-requires
push_doubled-requires c =
    let before : AllByRecursion IsLawfulTable (c.in-Some.table ∷ c.next.new.self.rest.items) = subst (AllByRecursion IsLawfulTable) c.in-Some.ensures.steps.0 c.loop-table.invariant.lawful in
    before.0

pub loop-table-preserved : goal.loop-table-preserved
loop-table-preserved c =
    let each = rows_after (λ key. key) (doubled c.args.doubling.now.from c.args.doubling.now.to) in
    let t = c.in-Some.table in
    let left = c.next.new.self.rest.items in
    let first : c.loop-table.table-iterator.rest.items ≡ t ∷ left = c.in-Some.ensures.steps.0 in
    let before : AllByRecursion IsLawfulTable (t ∷ left) = subst (AllByRecursion IsLawfulTable) first c.loop-table.invariant.lawful in
    record {
      same =
          ap (λ groups. with_rows groups (flat_map each left)) c.in_ok-runs.ensures ∙ sym (with_both c.loop-table.runs (each t) (flat_map each left))
          ∙ ap (λ (ts : List Table). with_rows c.loop-table.runs (flat_map each ts)) (sym first) ∙ c.loop-table.invariant.same;
      lawful = before.1;
    }
