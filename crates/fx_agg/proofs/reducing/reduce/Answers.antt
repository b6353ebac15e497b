use Rattle.std.proofs.Common.{◌≡◌, List, sym, subst, rules}
use Rattle.std.specs.Prelude.{Err}
use Rattle.fx_data.specs.declared.table.Table.{Table}
use Rattle.fx_value.specs.Calls.{Answers, Ended, heard}
use Rattle.fx_value.specs.Ends.{Gives}
use Rattle.fx_agg.specs.Reduce.{reduced}
use Rattle.fx_agg.proofs.Reduced.{steady_tables, steady_tables_reduced, reduce_unstuck, reduce_gives, reduce_stops}
use Rattle.fx_agg.proofs.reducing.reduce.Goals as goal

pub reduce_tables-requires-clause-unstuck : goal.reduce_tables-requires-clause-unstuck
reduce_tables-requires-clause-unstuck g c =
    let says = heard (g.F.RowFun.numbers c.args.fun.now) (g.P.Patterns.test c.args.patterns.now) in
    let means = g.F.RowFun.means c.args.fun.now says in
    reduce_unstuck means c.args.identity.now c.args.tables c.into_list.result c.empty.result c.into_list.ensures.value c.empty.ensures c.args.meter.now c.requires.ready.spent
    (steady_tables_reduced means (g.met.F.RowFun.limited c.args.fun.now says) c.args.identity.now c.empty.result c.into_list.result) c.requires.unstuck

pub returns-in_err-runs-clause-answer : goal.returns-in_err-runs-clause-answer
returns-in_err-runs-clause-answer g c =
    let says = heard (g.F.RowFun.numbers c.args.fun.now) (g.P.Patterns.test c.args.patterns.now) in
    let means = g.F.RowFun.means c.args.fun.now says in
    let same : c.from_residual.result ≡ Err c.in_err-runs.field-0.0 = search rules in
    subst (Answers (reduced means c.args.identity.now c.args.tables) c.args.meter.now c.reduce_tables.new.meter) (sym same)
    (reduce_stops means c.args.identity.now c.args.tables c.into_list.result c.empty.result c.into_list.ensures.value c.empty.ensures c.args.meter.now c.requires.ready.spent
    c.reduce_tables.new.meter c.in_err-runs.ensures.metered c.in_err-runs.field-0.0
    (steady_tables means (g.met.F.RowFun.limited c.args.fun.now says) c.args.identity.now c.args.tables) c.in_err-runs.ensures.answer)

pub returns-clause-answer : goal.returns-clause-answer
returns-clause-answer g c =
    let says = heard (g.F.RowFun.numbers c.args.fun.now) (g.P.Patterns.test c.args.patterns.now) in
    let means = g.F.RowFun.means c.args.fun.now says in
    subst (λ (ts : List Table). Ended (reduced means c.args.identity.now c.args.tables) (Gives ts) c.args.meter.now c.reduce_tables.new.meter) (sym c.in_ok-reduced.ensures)
    (reduce_gives means c.args.identity.now c.args.tables c.into_list.result c.empty.result c.into_list.ensures.value c.empty.ensures c.args.meter.now c.requires.ready.spent
    c.reduce_tables.new.meter c.in_ok-runs.ensures.metered c.in_ok-runs.runs c.in_ok-runs.ensures.answer)
