use Rattle.std.proofs.Common.{◌≡◌, List, ◌∷◌, sym, ap, subst, ◌∙◌}
use Rattle.std.specs.FinMap as fin
use Rattle.std.specs.List.{AllByRecursion}
use Rattle.fx_data.specs.Table.{IsLawfulTable}
use Rattle.fx_data.specs.declared.table.Table.{Table}
use Rattle.fx_shape.specs.Rename.{key_renamed, row_renamed}
use Rattle.fx_shape.specs.Renamed.{all_moved_to}
use Rattle.fx_shape.proofs.Renamed.{table_ahead}
use Rattle.fx_shape.proofs.renaming.runs_renamed.Goals as goal

pub loop-table-init : goal.loop-table-init
loop-table-init c =
    let key = key_renamed c.args.olds.now c.args.news.now in
    let row = row_renamed c.args.olds.now c.args.news.now in
    let left = c.into_iter-table-iterator.result.rest.items in
    let all : left ≡ c.args.tables = c.into_iter-table-iterator.ensures.into_iter_gives.0 ∙ c.into_vec-table-items.ensures ∙ c.into_list.ensures.value in
    record {
      same =
          ap (λ groups. all_moved_to key row groups left) c.empty-runs.ensures ∙ ap (λ (ts : List Table). all_moved_to key row fin.empty ts) all;
      lawful = subst (AllByRecursion IsLawfulTable) (sym all) c.into_list.ensures.lawful.each;
    }

pub push_renamed-requires : goal.push_renamed-requires
push_renamed-requires c =
    let before : AllByRecursion IsLawfulTable (c.in-Some.table ∷ c.next.new.self.rest.items) = subst (AllByRecursion IsLawfulTable) c.in-Some.ensures.steps.0 c.loop-table.invariant.lawful in
    before.0

pub loop-table-preserved : goal.loop-table-preserved
loop-table-preserved c =
    let key = key_renamed c.args.olds.now c.args.news.now in
    let row = row_renamed c.args.olds.now c.args.news.now in
    let t = c.in-Some.table in
    let left = c.next.new.self.rest.items in
    let first : c.loop-table.table-iterator.rest.items ≡ t ∷ left = c.in-Some.ensures.steps.0 in
    let before : AllByRecursion IsLawfulTable (t ∷ left) = subst (AllByRecursion IsLawfulTable) first c.loop-table.invariant.lawful in
    record {
      same =
          ap (λ groups. all_moved_to key row groups left) c.in_ok-runs.ensures ∙ sym (table_ahead key row c.loop-table.runs t left)
          ∙ ap (λ (ts : List Table). all_moved_to key row c.loop-table.runs ts) (sym first) ∙ c.loop-table.invariant.same;
      lawful = before.1;
    }
