use Rattle.std.proofs.Common.{◌≡◌, true, false, sym, ◌∙◌, ap}
use Rattle.fx_line.specs.Order.{rises}
use Rattle.fx_line.proofs.Sorting.{distinct_if_rises, sorted_if_rises, repeated_if_not}
use Rattle.fx_line.proofs.order.sorted_tags.Goals as goal

pub returns-then-rises-clause-found : goal.returns-then-rises-clause-found
returns-then-rises-clause-found c =
    let before = c.args.tags.items in
    let after = c.sort_by_key.new.tags.items in
    let up : rises after ≡ true = ap rises (sym c.as_slice.ensures.value) ∙ sym c.rises.ensures ∙ c.if-rises.true in
    (distinct_if_rises before after c.sort_by_key.ensures.stable up, sorted_if_rises before after c.sort_by_key.ensures.stable up)

pub returns-else-rises-clause-none : goal.returns-else-rises-clause-none
returns-else-rises-clause-none c =
    let before = c.args.tags.items in
    let after = c.sort_by_key.new.tags.items in
    let flat : rises after ≡ false = ap rises (sym c.as_slice.ensures.value) ∙ sym c.rises.ensures ∙ c.if-rises.false in
    repeated_if_not before after c.in_ok-sort_by_key.ensures.sorted c.sort_by_key.ensures.stable flat
