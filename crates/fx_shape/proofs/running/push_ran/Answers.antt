use Rattle.std.proofs.Common.{◌≡◌, not, sym, ap, subst, rules}
use Rattle.std.specs.FinMap.{get}
use Rattle.std.specs.Prelude.{Err}
use Rattle.fx_group.specs.Answer.{Row}
use Rattle.fx_group.specs.Turned.{with_rows}
use Rattle.fx_value.specs.Calls.{Told}
use Rattle.fx_value.specs.Works.{into}
use Rattle.fx_shape.specs.Outcome.{come_to, made_of, number_of}
use Rattle.fx_shape.specs.Running.{ran_table}
use Rattle.fx_shape.proofs.Ran.{ran_where, table_gives, table_stops, table_unstuck}
use Rattle.fx_shape.proofs.running.push_ran.Goals as goal

pub ran_rows-requires-clause-unstuck : goal.ran_rows-requires-clause-unstuck
ran_rows-requires-clause-unstuck c =
    table_unstuck (come_to c.args.which) (λ (row : Row). number_of c.args.which (get row c.args.read.now)) (made_of c.args.which c.args.place c.args.column.now) c.args.table c.requires.unstuck

pub push_moved-requires-clause-one : goal.push_moved-requires-clause-one
push_moved-requires-clause-one c =
    ran_where c.args.table.key c.args.column.now c.args.which c.args.place (λ (row : Row). number_of c.args.which (get row c.args.read.now)) (come_to c.args.which)
    c.args.table.rows c.in_ok-rows.rows (not c.has_label-one.result) c.requires.lawful.columns c.in_ok-rows.ensures (ap not c.has_label-one.ensures)

pub returns-in_err-rows : goal.returns-in_err-rows
returns-in_err-rows c =
    let read = λ (row : Row). number_of c.args.which (get row c.args.read.now) in
    let same : c.from_residual.result ≡ Err c.in_err-rows.field-0.0 = search rules in
    subst (Told (into with_rows c.args.runs (ran_table (come_to c.args.which) read (made_of c.args.which c.args.place c.args.column.now) c.args.table))) (sym same)
    (table_stops (come_to c.args.which) read (made_of c.args.which c.args.place c.args.column.now) c.args.table c.args.runs c.in_err-rows.field-0.0 c.in_err-rows.ensures)

pub returns : goal.returns
returns c =
    table_gives (come_to c.args.which) (λ (row : Row). number_of c.args.which (get row c.args.read.now)) (made_of c.args.which c.args.place c.args.column.now) c.args.table c.args.runs
    c.in_ok-runs.runs c.in_ok-rows.rows c.in_ok-rows.ensures c.in_ok-runs.ensures
