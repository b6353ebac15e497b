use Rattle.std.proofs.Common.{sym, subst, All}
use Rattle.fx_csv.specs.Alike.{HasAlikeRows}
use Rattle.fx_csv.specs.Printed.{HasOneKind}
use Rattle.fx_top.proofs.AlikeRows.{all_alike}
use Rattle.fx_top.proofs.ColumnKinds.{one_kind}
use Rattle.fx_top.proofs.run.yield_query.Goals as goal

pub write_alike_yield-requires-clause-alike : goal.write_alike_yield-requires-clause-alike
write_alike_yield-requires-clause-alike g c =
    subst (λ tables. All HasAlikeRows tables) (sym c.in-Ok.ensures) (all_alike c.args.query.now c.args.store.now.series)

pub write_alike_yield-requires-clause-kinds : goal.write_alike_yield-requires-clause-kinds
write_alike_yield-requires-clause-kinds g c =
    let kept = c.requires.kept in
    subst (λ tables. All HasOneKind tables) (sym c.in-Ok.ensures) (one_kind c.args.query.now c.args.store.now kept.buckets kept.stored kept.stands)
