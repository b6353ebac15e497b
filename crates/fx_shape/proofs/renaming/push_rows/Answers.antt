use Rattle.std.proofs.Common.{◌≡◌, List, sym, ap, subst, ◌∙◌}
use Rattle.std.specs.Prelude.{IfOk}
use Rattle.fx_data.specs.Table.{HasRisingLabels}
use Rattle.fx_data.specs.declared.key.Key.{Key}
use Rattle.fx_group.specs.Answer.{Row}
use Rattle.fx_group.specs.Turned.{Groups, with_rows}
use Rattle.fx_shape.specs.Rename.{key_renamed}
use Rattle.fx_shape.specs.Run.{keyed}
use Rattle.fx_shape.proofs.Renames.{one_where, renamed_rises}
use Rattle.fx_shape.proofs.renaming.push_rows.Goals as goal

pub push_moved-requires-clause-rising : goal.push_moved-requires-clause-rising
push_moved-requires-clause-rising c =
    subst HasRisingLabels (sym c.in_ok-renamed.ensures) (renamed_rises c.args.olds.now c.args.news.now c.args.key.now c.requires.rising)

pub push_moved-requires-clause-one : goal.push_moved-requires-clause-one
push_moved-requires-clause-one c =
    one_where c.args.olds.now c.args.news.now c.args.key.now c.in_ok-renamed.renamed c.args.rows c.in_ok-rows.rows c.fixes_key-one.result c.requires.columns c.in_ok-renamed.ensures
    c.in_ok-rows.ensures c.fixes_key-one.ensures

pub returns : goal.returns
returns c =
    subst (λ (groups : Groups). IfOk c.push_moved.result (λ r. r ≡ groups))
    (ap (λ (k : Key). with_rows c.args.runs (keyed k c.in_ok-rows.rows)) c.in_ok-renamed.ensures
    ∙ ap (λ (rs : List Row). with_rows c.args.runs (keyed (key_renamed c.args.olds.now c.args.news.now c.args.key.now) rs)) c.in_ok-rows.ensures)
    c.push_moved.ensures
