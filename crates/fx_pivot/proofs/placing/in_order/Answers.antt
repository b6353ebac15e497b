use Rattle.std.proofs.Common.{ap, ◌∙◌, rules}
use Rattle.std.proofs.lemmas.List.Sorted.{answers_always}
use Rattle.fx_pivot.specs.Cells.{cells_by_place}
use Rattle.fx_pivot.proofs.Orders.{lower, lower_orders, ascends}
use Rattle.fx_pivot.proofs.Places.{places_sorted}
use Rattle.fx_pivot.proofs.placing.in_order.Goals as goal

pub returns-clause-places : goal.returns-clause-places
returns-clause-places c =
    places_sorted c.into_vec-cells.result.items c.sort_by.new.self.items
    (c.in_ok-sort_by.ensures.stable lower lower_orders (answers_always _ _ _ (λ f a r k q. search rules)))
    ∙ ap cells_by_place c.into_vec-cells.ensures

pub returns-clause-order : goal.returns-clause-order
returns-clause-order c =
    ascends c.sort_by.new.self.items (c.in_ok-sort_by.ensures.sorted lower lower_orders (answers_always _ _ _ (λ f a r k q. search rules)))
