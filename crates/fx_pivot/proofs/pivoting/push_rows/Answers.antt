use Rattle.std.proofs.Common.{List, map, sym, ap, ◌∙◌}
use Rattle.fx_group.specs.Answer.{Row}
use Rattle.fx_group.specs.Turned.{Groups, with_rows}
use Rattle.fx_pivot.specs.Pivot.{keyed}
use Rattle.fx_pivot.proofs.pivoting.push_rows.Goals as goal

pub loop-row-preserved : goal.loop-row-preserved
loop-row-preserved c =
    let left = c.next.new.self.rest.items in
    ap (λ (groups : Groups). with_rows groups (map (keyed c.args.key.now) left)) c.in_ok-runs.ensures
    ∙ ap (λ (rows : List Row). with_rows c.loop-row.runs (map (keyed c.args.key.now) rows)) (sym c.in-Some.ensures.steps.0) ∙ c.loop-row.invariant
