use Rattle.std.proofs.Common.{sym, subst}
use Rattle.std.specs.List.{AllByRecursion}
use Rattle.fx_data.specs.Table.{HasKey}
use Rattle.fx_data.proofs.Lawful.{fewer_lawful}
use Rattle.fx_group.proofs.Ranged.{filter_all}
use Rattle.fx_group.specs.Bounds.{lies_between}
use Rattle.fx_group.proofs.ranging.push_between.Goals as goal

pub push_bounded-requires-clause-lawful : goal.push_bounded-requires-clause-lawful
push_bounded-requires-clause-lawful c =
    let between = lies_between c.args.bounds.now.start c.args.bounds.now.stop in
    fewer_lawful (record { key = c.args.key; rows = c.args.rows }) c.keep_between-rows.result c.requires.lawful
    (subst (AllByRecursion (HasKey c.args.key.entries)) (sym c.keep_between-rows.ensures) (filter_all (HasKey c.args.key.entries) between c.args.rows c.requires.lawful.columns))
