use Rattle.std.proofs.Common.{◌≡◌, List, ap, subst, ◌∙◌}
use Rattle.std.specs.Prelude.{IfOk}
use Rattle.fx_data.specs.declared.table.Table.{Table}
use Rattle.fx_shape.specs.Changed.{all_changed}
use Rattle.fx_shape.specs.Columns.{Label, column_doubled, doubled}
use Rattle.fx_shape.proofs.Given.{changed_is}
use Rattle.fx_shape.proofs.doubling.duplicate.Goals as goal

pub returns : goal.returns
unfolding column_doubled
returns c =
    subst (λ (ts : List Table). IfOk c.into_tables.result (λ t. t ≡ ts))
    (changed_is (doubled c.in_ok-from.from c.in_ok-to.to) c.args.tables c.in_ok-runs.runs c.in_ok-runs.ensures
    ∙ ap (λ (label : Label). all_changed (doubled label c.in_ok-to.to) c.args.tables) c.in_ok-from.ensures
    ∙ ap (λ (label : Label). all_changed (doubled c.args.column.now label) c.args.tables) c.in_ok-to.ensures)
    c.into_tables.ensures
