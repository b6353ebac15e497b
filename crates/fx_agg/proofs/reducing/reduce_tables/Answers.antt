use Rattle.std.proofs.Common.{◌≡◌, [], ◌∷◌, sym, subst, rules}
use Rattle.std.specs.List.{AllByRecursion}
use Rattle.std.specs.Prelude.{Ok, Err}
use Rattle.fx_data.specs.Table.{IsLawfulTable}
use Rattle.fx_data.specs.declared.table.Table.{Table}
use Rattle.fx_value.specs.Calls.{Answers, heard}
use Rattle.fx_value.proofs.Calls.{same_patterns_on}
use Rattle.fx_group.specs.Turned.{with_rows}
use Rattle.fx_group.proofs.Gathering.{item_unstuck, item_done, item_stops}
use Rattle.fx_group.proofs.Patterns.{unstuck_still, answers_still}
use Rattle.fx_group.proofs.Turned.{with_both}
use Rattle.fx_agg.specs.Reduce.{reduced_rows, reduced_to, tables_reduced}
use Rattle.fx_agg.proofs.Reduced.{steady_rows, steady_tables_reduced}
use Rattle.fx_agg.proofs.reducing.reduce_tables.Goals as goal

pub fold_rows-requires-clause-unstuck : goal.fold_rows-requires-clause-unstuck
fold_rows-requires-clause-unstuck g c =
    let says = heard (g.F.RowFun.numbers c.args.fun.now) (g.P.Patterns.test c.args.patterns.now) in
    let means = g.F.RowFun.means c.args.fun.now says in
    unstuck_still g.P.Patterns.built g.P.Patterns.refusals g.P.Patterns.test (g.F.RowFun.numbers c.args.fun.now)
    c.args.patterns.now c.loop-table.patterns c.loop-table.invariant.patterns c.requires.given
    (λ says. reduced_rows (g.F.RowFun.means c.args.fun.now says) c.args.identity.now c.in-Some.table.rows)
    (item_unstuck {X = Table} with_rows with_both (λ n t. reduced_rows means c.args.identity.now t.rows n) (λ t row. reduced_to t.key row ∷ [])
    (tables_reduced means c.args.identity.now c.args.runs c.args.tables) c.loop-table.runs c.loop-table.table-iterator.rest.items c.args.meter.now c.loop-table.meter c.loop-table.invariant.goes
    c.in-Some.table c.next.new.self.rest.items c.in-Some.ensures.steps.0
    (steady_rows means (g.met.F.RowFun.limited c.args.fun.now says) c.args.identity.now c.in-Some.table.rows) c.requires.unstuck)

pub push_reduced-requires : goal.push_reduced-requires
push_reduced-requires g c =
    let before : AllByRecursion IsLawfulTable (c.in-Some.table ∷ c.next.new.self.rest.items) = subst (AllByRecursion IsLawfulTable) c.in-Some.ensures.steps.0 c.loop-table.invariant.lawful in
    before.0.rising

pub returns-in_err-row-clause-answer : goal.returns-in_err-row-clause-answer
returns-in_err-row-clause-answer g c =
    let says = heard (g.F.RowFun.numbers c.args.fun.now) (g.P.Patterns.test c.args.patterns.now) in
    let means = g.F.RowFun.means c.args.fun.now says in
    let same : c.from_residual.result ≡ Err c.in_err-row.field-0.0 = search rules in
    subst (Answers (tables_reduced means c.args.identity.now c.args.runs c.args.tables) c.args.meter.now c.fold_rows.new.meter) (sym same)
    (item_stops {X = Table} with_rows with_both (λ n t. reduced_rows means c.args.identity.now t.rows n) (λ t row. reduced_to t.key row ∷ [])
    (tables_reduced means c.args.identity.now c.args.runs c.args.tables) c.loop-table.runs c.loop-table.table-iterator.rest.items c.args.meter.now c.loop-table.meter c.loop-table.invariant.goes
    c.in-Some.table c.next.new.self.rest.items c.in-Some.ensures.steps.0
    c.fold_rows.new.meter c.in_err-row.ensures.metered
    c.in_err-row.field-0.0 (steady_tables_reduced means (g.met.F.RowFun.limited c.args.fun.now says) c.args.identity.now c.args.runs c.args.tables)
    (answers_still g.P.Patterns.built g.P.Patterns.refusals g.P.Patterns.test (g.F.RowFun.numbers c.args.fun.now)
    c.args.patterns.now c.loop-table.patterns c.loop-table.invariant.patterns c.requires.given
    (λ says. reduced_rows (g.F.RowFun.means c.args.fun.now says) c.args.identity.now c.in-Some.table.rows) c.loop-table.meter c.fold_rows.new.meter (Err c.in_err-row.field-0.0) c.in_err-row.ensures.answer))

pub loop-table-preserved : goal.loop-table-preserved
loop-table-preserved g c =
    let says = heard (g.F.RowFun.numbers c.args.fun.now) (g.P.Patterns.test c.args.patterns.now) in
    let means = g.F.RowFun.means c.args.fun.now says in
    let before : AllByRecursion IsLawfulTable (c.in-Some.table ∷ c.next.new.self.rest.items) = subst (AllByRecursion IsLawfulTable) c.in-Some.ensures.steps.0 c.loop-table.invariant.lawful in
    record {
      goes = item_done {X = Table} with_rows with_both (λ n t. reduced_rows means c.args.identity.now t.rows n) (λ t row. reduced_to t.key row ∷ [])
          (tables_reduced means c.args.identity.now c.args.runs c.args.tables) c.loop-table.runs c.loop-table.table-iterator.rest.items c.args.meter.now c.loop-table.meter c.loop-table.invariant.goes
          c.in-Some.table c.next.new.self.rest.items c.in-Some.ensures.steps.0
          c.fold_rows.new.meter c.in_ok-row.ensures.metered c.in_ok-row.row
          (answers_still g.P.Patterns.built g.P.Patterns.refusals g.P.Patterns.test (g.F.RowFun.numbers c.args.fun.now)
          c.args.patterns.now c.loop-table.patterns c.loop-table.invariant.patterns c.requires.given
          (λ says. reduced_rows (g.F.RowFun.means c.args.fun.now says) c.args.identity.now c.in-Some.table.rows) c.loop-table.meter c.fold_rows.new.meter (Ok c.in_ok-row.row) c.in_ok-row.ensures.answer)
          _ c.in_ok-runs.ensures;
      patterns = same_patterns_on g.P.Patterns.built g.P.Patterns.refusals g.P.Patterns.test c.args.patterns.now c.loop-table.patterns c.fold_rows.new.patterns
          c.loop-table.invariant.patterns c.in_ok-row.ensures.patterns;
      lawful = before.1;
    }
