use Rattle.std.proofs.Common.{◌≡◌, List, ap, subst, ◌∙◌}
use Rattle.std.specs.Prelude.{IfOk}
use Rattle.fx_data.specs.declared.table.Table.{Table}
use Rattle.fx_shape.specs.Columns.{Label}
use Rattle.fx_shape.specs.Rename.{columns_renamed, key_renamed, row_renamed}
use Rattle.fx_shape.specs.Renamed.{tables_moved}
use Rattle.fx_shape.proofs.Renamed.{moved_is}
use Rattle.fx_shape.proofs.renaming.rename.Goals as goal

pub returns : goal.returns
unfolding columns_renamed
returns c =
    let moved = λ (olds news : List Label). tables_moved (key_renamed olds news) (row_renamed olds news) c.args.tables in
    subst (λ (ts : List Table). IfOk c.into_tables.result (λ t. t ≡ ts))
    (moved_is (key_renamed c.args.olds.now c.args.news.now) (row_renamed c.args.olds.now c.args.news.now) c.args.tables c.in_ok-runs.runs
    (c.in_ok-runs.ensures ∙ ap (λ (olds : List Label). moved olds c.as_slice-2.result.now) c.as_slice.ensures ∙ ap (λ (news : List Label). moved c.args.olds.now news) c.as_slice-2.ensures))
    c.into_tables.ensures
