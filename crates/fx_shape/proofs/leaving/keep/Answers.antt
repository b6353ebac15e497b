use Rattle.std.proofs.Common.{◌≡◌, ◌∙◌, ap, List, map}
use Rattle.std.proofs.lemmas.Result.{IfOk-weaker}
use Rattle.std.specs.FinMap as fin
use Rattle.fx_data.specs.Gathered.{grouped, table_of}
use Rattle.fx_group.specs.Group.{is_listed}
use Rattle.fx_shape.specs.Columns.{Label}
use Rattle.fx_shape.specs.Keep.{columns_kept, table_left}
use Rattle.fx_shape.proofs.Left.{kept_is}
use Rattle.fx_shape.proofs.leaving.keep.Goals as goal

pub returns : goal.returns
returns c =
    IfOk-weaker c.into_tables.result (λ t. t ≡ map table_of (fin.entries c.in_ok-runs.runs)) (λ t. t ≡ columns_kept c.args.columns.now c.args.tables)
    (λ t is. is ∙ kept_is c.args.columns.now c.args.tables c.in_ok-runs.runs
    (c.in_ok-runs.ensures ∙ ap (λ (columns : List Label). grouped (map (table_left (is_listed columns)) c.args.tables)) c.as_slice-columns.ensures))
    c.into_tables.ensures
