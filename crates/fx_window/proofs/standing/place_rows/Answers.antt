use Rattle.std.proofs.Common.{◌≡◌, List, ◌++◌, ap, sym, ◌∙◌, append_assoc}
use Rattle.fx_group.specs.Answer.{Row}
use Rattle.fx_window.specs.Plain.{placed_in, placed_all}
use Rattle.fx_window.specs.Standing.{placed_by}
use Rattle.fx_window.specs.declared.standing.Placed.{Placed}
use Rattle.fx_window.proofs.standing.place_rows.Goals as goal

pub loop-row-init : goal.loop-row-init
loop-row-init c =
    let all : c.into_iter-row-iterator.result.rest.items ≡ c.args.rows = c.into_iter-row-iterator.ensures.into_iter_gives.0 ∙ c.into_vec-row-items.ensures in
    ap (λ (ps : List Placed). ps ++ placed_all c.into_iter-row-iterator.result.rest.items) c.new-placed.ensures.items ∙ ap (λ (rows : List Row). placed_all rows) all

pub loop-row-preserved : goal.loop-row-preserved
loop-row-preserved c =
    let old = c.loop-row.placed.items in
    let left = c.next.new.self.rest.items in
    ap (λ (ps : List Placed). ps ++ placed_all left) (c.in_ok-push_placed.ensures ∙ ap (λ at. old ++ placed_by c.in-Some.row at) c.stand_in-at.ensures)
    ∙ append_assoc old (placed_in c.in-Some.row) (placed_all left)
    ∙ ap (λ (rows : List Row). old ++ placed_all rows) (sym c.in-Some.ensures.steps.0) ∙ c.loop-row.invariant
