use Rattle.std.proofs.Common.{◌≡◌, List, subst, rules}
use Rattle.std.proofs.lemmas.Fn.{always_returns_same}
use Rattle.std.specs.Prelude.{IfOk}
use Rattle.fx_group.specs.Answer.{Row}
use Rattle.fx_shape.proofs.InOrder.{ranked_before, ranked_is, ranked_order}
use Rattle.fx_shape.proofs.sorting.sorted_by.Goals as goal

pub returns : goal.returns
returns c =
    let lt = ranked_before c.args.desc c.args.others.now in
    let orders = ranked_order c.args.desc c.args.others.now in
    subst (λ (rs : List Row). IfOk c.rows_of.result (λ r. r ≡ rs))
    (ranked_is c.args.desc c.args.column.now c.args.others.now c.args.rows c.in_ok-items.items.items c.sort_by.new.self.items c.in_ok-items.ensures
    c.in_ok-sort_by.ensures.permutation
    (c.in_ok-sort_by.ensures.sorted lt orders (always_returns_same _ _ _ (λ a r f k. (search rules, search rules))))
    (c.in_ok-sort_by.ensures.stable lt orders (always_returns_same _ _ _ (λ a r f k. (search rules, search rules)))))
    c.rows_of.ensures
