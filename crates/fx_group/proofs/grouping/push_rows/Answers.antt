use Rattle.std.proofs.Common.{List, map, sym, ap, subst, ◌∙◌}
use Rattle.fx_data.specs.Regrouped.{joined, all_joined}
use Rattle.fx_data.specs.Table.{HasRisingLabels}
use Rattle.fx_data.specs.declared.key.Key.{Key}
use Rattle.fx_data.specs.declared.table.Table.{Table}
use Rattle.fx_group.specs.Answer.{Row}
use Rattle.fx_group.specs.Group.{picked_table}
use Rattle.fx_group.specs.Wanted.{picks}
use Rattle.fx_group.proofs.Grouped.{wanted_rises, wanted_new}
use Rattle.fx_group.proofs.grouping.push_rows.Goals as goal

pub push-requires : goal.push-requires
push-requires c =
    let p = c.in_ok-pattern.pattern in
    subst (λ (k : Key). HasRisingLabels k) (sym c.in_ok-pattern.ensures.pattern) (wanted_rises (picks c.args.columns.now c.args.except) p.row)

pub loop-row-preserved : goal.loop-row-preserved
loop-row-preserved c =
    let each = picked_table (picks c.args.columns.now c.args.except) in
    let p = c.in_ok-pattern.pattern in
    let left = c.next.new.self.rest.items in
    record {
      same =
          ap (λ groups. all_joined groups (map each left)) (c.in_ok-runs.ensures
          ∙ ap (λ (t : Table). joined c.loop-row.runs t) (wanted_new (picks c.args.columns.now c.args.except) p.row c.in-Some.row p.key c.in_ok-pattern.ensures.labels c.in_ok-pattern.ensures.pattern))
          ∙ ap (λ (rows : List Row). all_joined c.loop-row.runs (map each rows)) (sym c.in-Some.ensures.steps.0) ∙ c.loop-row.invariant.same;
      pattern = c.in_ok-pattern.ensures.pattern;
    }
