use Rattle.std.proofs.Common.{◌≡◌, ◌∷◌, sym, subst, rules}
use Rattle.std.specs.List.{AllByRecursion}
use Rattle.std.specs.Prelude.{Ok, Err}
use Rattle.fx_data.specs.Table.{IsLawfulTable}
use Rattle.fx_value.specs.Calls.{Answers, heard}
use Rattle.fx_value.proofs.Calls.{same_patterns_on}
use Rattle.fx_value.proofs.Loops.{state_ahead, goes_unstuck, goes_then, goes_stops}
use Rattle.fx_group.specs.Map.{mapped_table}
use Rattle.fx_group.specs.Turned.{with_rows, rows_turned, tables_turned}
use Rattle.fx_group.proofs.Patterns.{unstuck_still, answers_still}
use Rattle.fx_group.proofs.Steady.{steady_rows_turned, steady_tables_turned}
use Rattle.fx_group.proofs.Turned.{with_both}
use Rattle.fx_group.proofs.turning.turn_tables.Goals as goal

pub turn_rows-requires-clause-unstuck : goal.turn_rows-requires-clause-unstuck
turn_rows-requires-clause-unstuck g c =
    let says = heard (g.F.RowFun.numbers c.args.fun.now) (g.P.Patterns.test c.args.patterns.now) in
    let means = g.F.RowFun.means c.args.fun.now says in
    let t = c.in-Some.table in
    unstuck_still g.P.Patterns.built g.P.Patterns.refusals g.P.Patterns.test (g.F.RowFun.numbers c.args.fun.now)
    c.args.patterns.now c.loop-table.patterns c.loop-table.invariant.patterns c.requires.given
    (λ says. rows_turned (g.F.RowFun.means c.args.fun.now says) c.loop-table.runs t.key t.rows)
    (goes_unstuck (tables_turned means c.args.runs c.args.tables) (rows_turned means c.loop-table.runs t.key t.rows)
    (λ groups. tables_turned means groups c.next.new.self.rest.items) c.args.meter.now c.loop-table.meter
    (state_ahead with_rows with_both (tables_turned means c.args.runs c.args.tables) (mapped_table means) c.loop-table.runs c.loop-table.table-iterator.rest.items
    c.args.meter.now c.loop-table.meter c.loop-table.invariant.goes t c.next.new.self.rest.items c.in-Some.ensures.steps.0)
    (steady_rows_turned means (g.met.F.RowFun.limited c.args.fun.now says) c.loop-table.runs t.key t.rows) c.requires.unstuck)

pub returns-in_err-runs-clause-answer : goal.returns-in_err-runs-clause-answer
returns-in_err-runs-clause-answer g c =
    let says = heard (g.F.RowFun.numbers c.args.fun.now) (g.P.Patterns.test c.args.patterns.now) in
    let means = g.F.RowFun.means c.args.fun.now says in
    let t = c.in-Some.table in
    let why = c.in_err-runs.field-0.0 in
    let same : c.from_residual.result ≡ Err c.in_err-runs.field-0.0 = search rules in
    subst (Answers (tables_turned means c.args.runs c.args.tables) c.args.meter.now c.turn_rows.new.meter) (sym same)
    (goes_stops (tables_turned means c.args.runs c.args.tables) (rows_turned means c.loop-table.runs t.key t.rows)
    (λ groups. tables_turned means groups c.next.new.self.rest.items) c.args.meter.now c.loop-table.meter
    (state_ahead with_rows with_both (tables_turned means c.args.runs c.args.tables) (mapped_table means) c.loop-table.runs c.loop-table.table-iterator.rest.items
    c.args.meter.now c.loop-table.meter c.loop-table.invariant.goes t c.next.new.self.rest.items c.in-Some.ensures.steps.0)
    c.turn_rows.new.meter c.in_err-runs.ensures.metered why (steady_tables_turned means (g.met.F.RowFun.limited c.args.fun.now says) c.args.runs c.args.tables)
    (answers_still g.P.Patterns.built g.P.Patterns.refusals g.P.Patterns.test (g.F.RowFun.numbers c.args.fun.now)
    c.args.patterns.now c.loop-table.patterns c.loop-table.invariant.patterns c.requires.given
    (λ says. rows_turned (g.F.RowFun.means c.args.fun.now says) c.loop-table.runs t.key t.rows) c.loop-table.meter c.turn_rows.new.meter (Err why) c.in_err-runs.ensures.answer))

pub loop-table-preserved : goal.loop-table-preserved
loop-table-preserved g c =
    let says = heard (g.F.RowFun.numbers c.args.fun.now) (g.P.Patterns.test c.args.patterns.now) in
    let means = g.F.RowFun.means c.args.fun.now says in
    let t = c.in-Some.table in
    let left = c.next.new.self.rest.items in
    let before : AllByRecursion IsLawfulTable (t ∷ left) = subst (AllByRecursion IsLawfulTable) c.in-Some.ensures.steps.0 c.loop-table.invariant.lawful in
    record {
      goes = goes_then (tables_turned means c.args.runs c.args.tables) (rows_turned means c.loop-table.runs t.key t.rows)
          (λ groups. tables_turned means groups left) c.args.meter.now c.loop-table.meter
          (state_ahead with_rows with_both (tables_turned means c.args.runs c.args.tables) (mapped_table means) c.loop-table.runs c.loop-table.table-iterator.rest.items
          c.args.meter.now c.loop-table.meter c.loop-table.invariant.goes t left c.in-Some.ensures.steps.0)
          c.turn_rows.new.meter c.in_ok-runs.ensures.metered c.in_ok-runs.runs
          (answers_still g.P.Patterns.built g.P.Patterns.refusals g.P.Patterns.test (g.F.RowFun.numbers c.args.fun.now)
          c.args.patterns.now c.loop-table.patterns c.loop-table.invariant.patterns c.requires.given
          (λ says. rows_turned (g.F.RowFun.means c.args.fun.now says) c.loop-table.runs t.key t.rows) c.loop-table.meter c.turn_rows.new.meter (Ok c.in_ok-runs.runs) c.in_ok-runs.ensures.answer);
      patterns = same_patterns_on g.P.Patterns.built g.P.Patterns.refusals g.P.Patterns.test c.args.patterns.now c.loop-table.patterns c.turn_rows.new.patterns
          c.loop-table.invariant.patterns c.in_ok-runs.ensures.patterns;
      lawful = before.1;
    }
