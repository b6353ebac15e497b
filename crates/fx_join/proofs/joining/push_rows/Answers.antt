use Rattle.std.proofs.Common.{List, sym, ap, ◌∙◌}
use Rattle.fx_group.specs.Answer.{Row}
use Rattle.fx_group.specs.Turned.{Groups}
use Rattle.fx_join.specs.Part.{with_keyed}
use Rattle.fx_join.proofs.joining.push_rows.Goals as goal

pub loop-row-preserved : goal.loop-row-preserved
loop-row-preserved c =
    let key = c.args.key.now in
    let left = c.next.new.self.rest.items in
    ap (λ (groups : Groups). with_keyed key groups left) c.in_ok-runs.ensures
    ∙ ap (λ (rows : List Row). with_keyed key c.loop-row.runs rows) (sym c.in-Some.ensures.steps.0) ∙ c.loop-row.invariant
