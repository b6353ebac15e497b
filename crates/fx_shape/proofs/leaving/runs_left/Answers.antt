use Rattle.std.proofs.Common.{◌≡◌, List, ◌∷◌, sym, ap, subst, ◌∙◌, map}
use Rattle.std.specs.List.{AllByRecursion}
use Rattle.std.specs.FinMap as fin
use Rattle.fx_data.specs.Regrouped.{all_joined}
use Rattle.fx_data.specs.Table.{IsLawfulTable}
use Rattle.fx_data.specs.declared.table.Table.{Table}
use Rattle.fx_data.proofs.Regrouped.{joined_empty}
use Rattle.fx_shape.specs.Keep.{table_left}
use Rattle.fx_shape.specs.Naming.{stays}
use Rattle.fx_shape.proofs.leaving.runs_left.Goals as goal

pub loop-table-init : goal.loop-table-init
loop-table-init c =
    let each = table_left (stays c.args.naming.now) in
    let left = c.into_iter-table-iterator.result.rest.items in
    let all : left ≡ c.args.tables = c.into_iter-table-iterator.ensures.into_iter_gives.0 ∙ c.into_vec-table-items.ensures ∙ c.into_list.ensures.value in
    record {
      same =
          ap (λ groups. all_joined groups (map each left)) c.empty-runs.ensures ∙ ap (λ (ts : List Table). all_joined fin.empty (map each ts)) all
          ∙ joined_empty (map each c.args.tables);
      lawful = subst (AllByRecursion IsLawfulTable) (sym all) c.into_list.ensures.lawful.each;
    }

pub loop-table-preserved : goal.loop-table-preserved
loop-table-preserved c =
    let each = table_left (stays c.args.naming.now) in
    let t = c.in-Some.table in
    let left = c.next.new.self.rest.items in
    let first : c.loop-table.table-iterator.rest.items ≡ t ∷ left = c.in-Some.ensures.steps.0 in
    let before : AllByRecursion IsLawfulTable (t ∷ left) = subst (AllByRecursion IsLawfulTable) first c.loop-table.invariant.lawful in
    record {
      same =
          ap (λ groups. all_joined groups (map each left)) c.in_ok-runs.ensures ∙ ap (λ (ts : List Table). all_joined c.loop-table.runs (map each ts)) (sym first)
          ∙ c.loop-table.invariant.same;
      lawful = before.1;
    }
