use Rattle.std.proofs.Common.{List, sym, ap, ◌∙◌}
use Rattle.fx_group.specs.Answer.{Row}
use Rattle.fx_agg.specs.Chosen.{candidate, stays, better, best}
use Rattle.fx_agg.proofs.Choices.{better_three}
use Rattle.fx_agg.proofs.choosing.chosen.Goals as goal

pub loop-row-preserved : goal.loop-row-preserved
loop-row-preserved c =
    let keeps = stays c.args.which in
    let column = c.args.column.now in
    let left = c.next.new.self.rest.items in
    ap (λ b. better keeps b (best keeps column left)) c.in_ok-offer.ensures
    ∙ sym (better_three c.args.which c.loop-row.best (candidate column c.in-Some.row) (best keeps column left))
    ∙ ap (λ (rows : List Row). better keeps c.loop-row.best (best keeps column rows)) (sym c.in-Some.ensures.steps.0) ∙ c.loop-row.invariant
