use Rattle.std.proofs.Common.{List, sym, ap, ◌∙◌}
use Rattle.fx_group.specs.Answer.{Row}
use Rattle.fx_group.specs.Turned.{with_rows}
use Rattle.fx_shape.specs.Run.{keyed}
use Rattle.fx_shape.proofs.run.push_each.Goals as goal

pub loop-row-preserved : goal.loop-row-preserved
loop-row-preserved c =
    let key = c.args.key.now in
    ap (λ groups. with_rows groups (keyed key c.next.new.self.rest.items)) c.in_ok-runs.ensures
    ∙ ap (λ (rows : List Row). with_rows c.loop-row.runs (keyed key rows)) (sym c.in-Some.ensures.steps.0) ∙ c.loop-row.invariant
