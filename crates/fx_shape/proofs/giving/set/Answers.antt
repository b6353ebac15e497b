use Rattle.std.proofs.Common.{◌≡◌, List, ap, subst, ◌∙◌}
use Rattle.std.specs.Prelude.{IfOk}
use Rattle.fx_data.specs.declared.table.Table.{Table}
use Rattle.fx_value.specs.declared.scalar.Scalar.{Scalar}
use Rattle.fx_shape.specs.Changed.{all_changed}
use Rattle.fx_shape.specs.Columns.{column_set}
use Rattle.fx_shape.specs.Content.{given}
use Rattle.fx_shape.specs.declared.giving.Content.TheVariants as content
use Rattle.fx_shape.proofs.Given.{changed_is}
use Rattle.fx_shape.proofs.giving.set.Goals as goal

pub returns : goal.returns
unfolding column_set
returns c =
    subst (λ (ts : List Table). IfOk c.into_tables.result (λ t. t ≡ ts))
    (changed_is (given (content.Value c.in_ok-value.value) c.args.key.now) c.args.tables c.in_ok-runs.runs c.in_ok-runs.ensures
    ∙ ap (λ (v : Scalar). all_changed (given (content.Value v) c.args.key.now) c.args.tables) c.in_ok-value.ensures)
    c.into_tables.ensures
