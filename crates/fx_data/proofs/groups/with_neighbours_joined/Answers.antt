use Rattle.std.proofs.Common.{◌≡◌, List, [], sym, ap, subst, ◌∙◌}
use Rattle.std.specs.List.{AllByRecursion}
use Rattle.fx_data.specs.Ascending.{Rise, Ascend}
use Rattle.fx_data.specs.Gathered.{grouped}
use Rattle.fx_data.specs.Regrouped.{all_joined}
use Rattle.fx_data.specs.Table.{IsLawfulTable}
use Rattle.fx_data.specs.declared.table.Table.{Table}
use Rattle.fx_data.proofs.Lawful.{no_tables_lawful}
use Rattle.fx_data.proofs.Merged.{no_last}
use Rattle.fx_data.proofs.Regrouped.{joined_all}
use Rattle.fx_data.proofs.groups.with_neighbours_joined.Goals as goal

pub loop-table-init : goal.loop-table-init
loop-table-init c =
    let left = c.into_iter-table-iterator.result.rest.items in
    let all : left ≡ c.args.tables.items = c.into_iter-table-iterator.ensures.into_iter_gives.0 in
    let none : c.new-made.result.items ≡ [] = c.new-made.ensures.items in
    record {
      same = ap (λ (ts : List Table). all_joined (grouped ts) left) none ∙ joined_all [] left ∙ ap grouped all;
      order = subst Ascend (sym all) c.requires.order;
      last = λ front t is. absurd (no_last front t (sym none ∙ is));
      rising = subst Rise (sym none) no_tables_lawful.rising;
      made = subst (AllByRecursion IsLawfulTable) (sym none) tt;
      left = subst (AllByRecursion IsLawfulTable) (sym all) c.requires.lawful;
    }
