use Rattle.std.proofs.Common.{◌≡◌, List, sym, subst, rules}
use Rattle.std.specs.Prelude.{Ok, Err}
use Rattle.fx_data.specs.declared.table.Table.{Table}
use Rattle.fx_value.specs.Calls.{Answers, Ended, heard}
use Rattle.fx_value.specs.Ends.{Gives}
use Rattle.fx_group.specs.Filter.{filtered}
use Rattle.fx_group.proofs.Kept.{filter_unstuck, filter_answers}
use Rattle.fx_group.proofs.keeping.filter.Goals as goal

pub keep_tables-requires-clause-unstuck : goal.keep_tables-requires-clause-unstuck
keep_tables-requires-clause-unstuck g c =
    let means = g.F.RowFun.means c.args.fun.now (heard (g.F.RowFun.numbers c.args.fun.now) (g.P.Patterns.test c.args.patterns.now)) in
    filter_unstuck means c.args.tables c.into_list.result c.into_list.ensures.value c.requires.unstuck

pub returns-in_err-items-clause-answer : goal.returns-in_err-items-clause-answer
returns-in_err-items-clause-answer g c =
    let means = g.F.RowFun.means c.args.fun.now (heard (g.F.RowFun.numbers c.args.fun.now) (g.P.Patterns.test c.args.patterns.now)) in
    let same : c.from_residual.result ≡ Err c.in_err-items.field-0.0 = search rules in
    subst (Answers (filtered means c.args.tables) c.args.meter.now c.keep_tables.new.meter) (sym same)
    (filter_answers means c.args.tables c.into_list.result c.into_list.ensures.value c.args.meter.now c.keep_tables.new.meter (Err c.in_err-items.field-0.0) c.in_err-items.ensures.answer)

pub returns-clause-answer : goal.returns-clause-answer
returns-clause-answer g c =
    let means = g.F.RowFun.means c.args.fun.now (heard (g.F.RowFun.numbers c.args.fun.now) (g.P.Patterns.test c.args.patterns.now)) in
    subst (λ (ts : List Table). Ended (filtered means c.args.tables) (Gives ts) c.args.meter.now c.keep_tables.new.meter) (sym c.of.ensures)
    (filter_answers means c.args.tables c.into_list.result c.into_list.ensures.value c.args.meter.now c.keep_tables.new.meter (Ok c.in_ok-items.items) c.in_ok-items.ensures.answer)
