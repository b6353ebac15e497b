use Rattle.std.proofs.Common.{sym, ap, subst, ◌∙◌, rules}
use Rattle.std.proofs.lemmas.List.Sorted.{answers_always}
use Rattle.std.specs.List.{AllByRecursion}
use Rattle.fx_data.specs.Gathered.{grouped}
use Rattle.fx_data.specs.Table.{IsLawfulTable}
use Rattle.fx_data.proofs.Merged.{lower, lower_orders, groups_kept, ascends, all_moved}
use Rattle.fx_data.proofs.groups.in_order.Goals as goal

pub returns-clause-groups : goal.returns-clause-groups
returns-clause-groups c =
    groups_kept c.into_vec-tables.result.items c.sort_by.new.self.items
    (c.in_ok-sort_by.ensures.stable lower lower_orders (answers_always _ _ _ (λ f a r k q. search rules)))
    ∙ ap grouped c.into_vec-tables.ensures

pub returns-clause-order : goal.returns-clause-order
returns-clause-order c =
    ascends c.sort_by.new.self.items (c.in_ok-sort_by.ensures.sorted lower lower_orders (answers_always _ _ _ (λ f a r k q. search rules)))

pub returns-clause-lawful : goal.returns-clause-lawful
returns-clause-lawful c = λ h.
    all_moved IsLawfulTable c.into_vec-tables.result.items c.sort_by.new.self.items c.in_ok-sort_by.ensures.permutation
    (subst (AllByRecursion IsLawfulTable) (sym c.into_vec-tables.ensures) h)
