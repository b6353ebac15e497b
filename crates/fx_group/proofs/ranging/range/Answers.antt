use Rattle.std.proofs.Common.{◌≡◌, map, rules}
use Rattle.std.proofs.lemmas.Result.{IfOk-weaker}
use Rattle.std.specs.FinMap as fin
use Rattle.fx_data.specs.Gathered.{table_of}
use Rattle.fx_value.specs.Ends.{Gives}
use Rattle.fx_group.specs.Range.{ranged}
use Rattle.fx_group.proofs.Ranged.{range_is}
use Rattle.fx_group.proofs.ranging.range.Goals as goal

pub returns : goal.returns
returns c =
    let low : c.in_ok-bounds.bounds.start ≡ c.args.start = search rules in
    let high : c.in_ok-bounds.bounds.stop ≡ c.args.stop = search rules in
    IfOk-weaker c.into_tables.result (λ t. t ≡ map table_of (fin.entries c.in_ok-runs.runs)) (λ t. ranged c.args.start c.args.stop c.args.tables ≡ Gives t 0)
    (λ t is. range_is c.args.start c.args.stop c.in_ok-bounds.bounds.start c.in_ok-bounds.bounds.stop low high
    c.args.tables c.requires c.in_ok-runs.runs t c.in_ok-runs.ensures is)
    c.into_tables.ensures
