-- Of alike rows the first has all labels.
use Rattle.std.proofs.Common.{◌∙◌, ap}
use Rattle.std.specs.FinMap as map
use Rattle.std.specs.List.{flat_map, fold}
use Rattle.std.specs.BTreeSet.{insert_key}
use Rattle.fx_csv.specs.Columns.{column_cmp}
use Rattle.fx_csv.proofs.AlikeFirst.{told_by_first}
use Rattle.fx_csv.proofs.names.telling.Goals as goal

pub returns-in-len1-up : goal.returns-in-len1-up
returns-in-len1-up c = λ names.
    ap (λ rs. fold (insert_key column_cmp) names (flat_map map.keys rs)) c.from_ref.ensures.value
    ∙ told_by_first names c.args.rows.now c.first-item.result c.in-len1-up.len_at_least c.first-item.is (c.requires c.if-alike.true)
