use Rattle.std.proofs.Common.{◌≡◌, false, List, ℕ, ap, subst, ◌∙◌}
use Rattle.std.specs.Prelude.{IfOk}
use Rattle.fx_data.specs.declared.table.Table.{Table}
use Rattle.fx_group.specs.Group.{regrouped_by}
use Rattle.fx_group.specs.Wanted.{picks}
use Rattle.fx_group.proofs.Grouped.{regrouped_is}
use Rattle.fx_group.proofs.grouping.group_by.Goals as goal

pub returns : goal.returns
returns c =
    let asked = picks c.as_slice.result.now false in
    subst (λ (ts : List Table). IfOk c.into_tables.result (λ t. t ≡ ts))
    (regrouped_is asked c.args.tables c.in_ok-runs.runs c.in_ok-runs.ensures
    ∙ ap (λ (columns : List (List ℕ)). regrouped_by (picks columns false) c.args.tables) c.as_slice.ensures)
    c.into_tables.ensures
