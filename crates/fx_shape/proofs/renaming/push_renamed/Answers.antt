use Rattle.std.proofs.Common.{◌≡◌, ◌<◌, ◌≤◌, List, length, sym, subst}
use Rattle.std.specs.Prelude.{IfOk}
use Rattle.fx_data.specs.Table.{HasRisingLabels}
use Rattle.fx_group.specs.Answer.{Row}
use Rattle.fx_group.specs.Turned.{Groups}
use Rattle.fx_shape.specs.Rename.{key_renamed, row_renamed}
use Rattle.fx_shape.proofs.Renamed.{bare_by_length, with_none, with_some}
use Rattle.fx_shape.proofs.Renames.{renamed_rises}
use Rattle.fx_shape.proofs.renaming.push_renamed.Goals as goal

pub push_table-requires : goal.push_table-requires
push_table-requires c =
    bare_by_length c.in_ok-key-in-empty.key c.args.table.rows (subst (λ (rs : List Row). length rs < 1) c.as_slice.ensures c.in-empty.len_below)
    (subst HasRisingLabels (sym c.in_ok-key-in-empty.ensures) (renamed_rises c.args.olds.now c.args.news.now c.args.table.key c.requires.rising))

pub returns-in-empty : goal.returns-in-empty
returns-in-empty c =
    subst (λ (groups : Groups). IfOk c.push_table.result (λ r. r ≡ groups))
    (with_none (key_renamed c.args.olds.now c.args.news.now) (row_renamed c.args.olds.now c.args.news.now) c.args.runs c.args.table.key c.in_ok-key-in-empty.key c.args.table.rows
    (subst (λ (rs : List Row). length rs < 1) c.as_slice.ensures c.in-empty.len_below) c.in_ok-key-in-empty.ensures)
    c.push_table.ensures

pub returns : goal.returns
returns c =
    subst (λ (groups : Groups). IfOk c.push_rows.result (λ r. r ≡ groups))
    (with_some (key_renamed c.args.olds.now c.args.news.now) (row_renamed c.args.olds.now c.args.news.now) c.args.runs c.args.table.key c.args.table.rows
    (subst (λ (rs : List Row). 1 ≤ length rs) c.as_slice.ensures c.in-len1-up.len_at_least))
    c.push_rows.ensures
