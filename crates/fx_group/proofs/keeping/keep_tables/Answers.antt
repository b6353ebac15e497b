use Rattle.std.proofs.Common.{◌≡◌, ◌∷◌, ◌++◌, sym, subst, append_assoc, List, arith, rules}
use Rattle.std.specs.Prelude.{Ok, Err}
use Rattle.fx_data.specs.declared.table.Table.{Table}
use Rattle.fx_data.specs.Table.{HasKey, AreLawful}
use Rattle.fx_data.proofs.Lawful.{lawful_at}
use Rattle.fx_value.specs.Calls.{Answers, heard}
use Rattle.fx_value.proofs.Calls.{same_patterns_on}
use Rattle.fx_group.specs.Filter.{kept_rows, kept_tables, table_if}
use Rattle.fx_group.proofs.Gathering.{item_unstuck, item_done, item_stops}
use Rattle.fx_group.proofs.Kept.{kept_all, kept_lawful}
use Rattle.fx_group.proofs.Patterns.{unstuck_still, answers_still}
use Rattle.fx_group.proofs.Steady.{steady_kept_rows, steady_kept_tables}
use Rattle.fx_group.proofs.keeping.keep_tables.Goals as goal

pub keep_rows-requires-clause-unstuck : goal.keep_rows-requires-clause-unstuck
keep_rows-requires-clause-unstuck g c =
    let says = heard (g.F.RowFun.numbers c.args.fun.now) (g.P.Patterns.test c.args.patterns.now) in
    let means = g.F.RowFun.means c.args.fun.now says in
    unstuck_still g.P.Patterns.built g.P.Patterns.refusals g.P.Patterns.test (g.F.RowFun.numbers c.args.fun.now)
    c.args.patterns.now c.loop-table.patterns c.loop-table.invariant.patterns c.requires.given
    (λ says. kept_rows (g.F.RowFun.means c.args.fun.now says) c.in-Some.table.rows)
    (item_unstuck {X = Table} ◌++◌ (λ xs ys zs. sym (append_assoc xs ys zs)) (λ n t. kept_rows means t.rows n) (λ t rows. table_if t.key rows)
    (kept_tables means c.args.tables) c.loop-table.kept.items c.loop-table.table-iterator.rest.items c.args.meter.now c.loop-table.meter c.loop-table.invariant.goes
    c.in-Some.table c.next.new.self.rest.items c.in-Some.ensures.steps.0
    (steady_kept_rows means (g.met.F.RowFun.limited c.args.fun.now says) c.in-Some.table.rows) c.requires.unstuck)

pub returns-in_err-rows-clause-answer : goal.returns-in_err-rows-clause-answer
returns-in_err-rows-clause-answer g c =
    let says = heard (g.F.RowFun.numbers c.args.fun.now) (g.P.Patterns.test c.args.patterns.now) in
    let means = g.F.RowFun.means c.args.fun.now says in
    let same : c.from_residual.result ≡ Err c.in_err-rows.field-0.0 = search rules in
    subst (Answers (kept_tables means c.args.tables) c.args.meter.now c.keep_rows.new.meter) (sym same)
    (item_stops {X = Table} ◌++◌ (λ xs ys zs. sym (append_assoc xs ys zs)) (λ n t. kept_rows means t.rows n) (λ t rows. table_if t.key rows)
    (kept_tables means c.args.tables) c.loop-table.kept.items c.loop-table.table-iterator.rest.items c.args.meter.now c.loop-table.meter c.loop-table.invariant.goes
    c.in-Some.table c.next.new.self.rest.items c.in-Some.ensures.steps.0 c.keep_rows.new.meter c.in_err-rows.ensures.metered
    c.in_err-rows.field-0.0 (steady_kept_tables means (g.met.F.RowFun.limited c.args.fun.now says) c.args.tables)
    (answers_still g.P.Patterns.built g.P.Patterns.refusals g.P.Patterns.test (g.F.RowFun.numbers c.args.fun.now)
    c.args.patterns.now c.loop-table.patterns c.loop-table.invariant.patterns c.requires.given
    (λ says. kept_rows (g.F.RowFun.means c.args.fun.now says) c.in-Some.table.rows) c.loop-table.meter c.keep_rows.new.meter (Err c.in_err-rows.field-0.0) c.in_err-rows.ensures.answer))

pub loop-table-preserved : goal.loop-table-preserved
loop-table-preserved g c =
    let says = heard (g.F.RowFun.numbers c.args.fun.now) (g.P.Patterns.test c.args.patterns.now) in
    let means = g.F.RowFun.means c.args.fun.now says in
    let t = c.in-Some.table in
    let kept = c.loop-table.kept.items in
    let rows = c.in_ok-rows.rows in
    let left = c.next.new.self.rest.items in
    let ended
    = answers_still g.P.Patterns.built g.P.Patterns.refusals g.P.Patterns.test (g.F.RowFun.numbers c.args.fun.now)
    c.args.patterns.now c.loop-table.patterns c.loop-table.invariant.patterns c.requires.given
    (λ says. kept_rows (g.F.RowFun.means c.args.fun.now says) t.rows) c.loop-table.meter c.keep_rows.new.meter (Ok rows) c.in_ok-rows.ensures.answer in
    let before : AreLawful (kept ++ t ∷ left) = subst (λ (ts : List Table). AreLawful (kept ++ ts)) c.in-Some.ensures.steps.0 c.loop-table.invariant.lawful in
    let columns = kept_all (HasKey t.key.entries) means ended.ticks t.rows rows ended.ticks (lawful_at kept left t before).columns (ended.at ended.ticks (omega arith)) in
    record {
      goes = item_done {X = Table} ◌++◌ (λ xs ys zs. sym (append_assoc xs ys zs)) (λ n u. kept_rows means u.rows n) (λ u rs. table_if u.key rs)
          (kept_tables means c.args.tables) kept c.loop-table.table-iterator.rest.items c.args.meter.now c.loop-table.meter c.loop-table.invariant.goes
          t left c.in-Some.ensures.steps.0 c.keep_rows.new.meter c.in_ok-rows.ensures.metered rows ended _ c.in_ok-push_table.ensures;
      patterns = same_patterns_on g.P.Patterns.built g.P.Patterns.refusals g.P.Patterns.test c.args.patterns.now c.loop-table.patterns c.keep_rows.new.patterns
          c.loop-table.invariant.patterns c.in_ok-rows.ensures.patterns;
      lawful = subst (λ (ts : List Table). AreLawful (ts ++ left)) (sym c.in_ok-push_table.ensures) (kept_lawful kept left t rows before columns);
    }
