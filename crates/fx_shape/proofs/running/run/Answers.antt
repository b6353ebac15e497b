use Rattle.std.proofs.Common.{◌≡◌, sym, subst, rules}
use Rattle.std.specs.FinMap.{get}
use Rattle.std.specs.Prelude.{Err}
use Rattle.fx_group.specs.Answer.{Row}
use Rattle.fx_value.specs.Calls.{Told}
use Rattle.fx_shape.specs.Outcome.{come_to, made_of, number_of}
use Rattle.fx_shape.specs.Running.{ran}
use Rattle.fx_shape.proofs.Ran.{ran_unstuck, ran_gives, ran_stops}
use Rattle.fx_shape.proofs.running.run.Goals as goal

pub runs_ran-requires-clause-unstuck : goal.runs_ran-requires-clause-unstuck
runs_ran-requires-clause-unstuck c =
    ran_unstuck (come_to c.args.which) (λ (row : Row). number_of c.args.which (get row c.args.read.now)) (made_of c.args.which c.args.place c.args.column.now) c.args.tables c.requires.unstuck

pub returns-in_err-runs : goal.returns-in_err-runs
returns-in_err-runs c =
    let read = λ (row : Row). number_of c.args.which (get row c.args.read.now) in
    let same : c.from_residual.result ≡ Err c.in_err-runs.field-0.0 = search rules in
    subst (Told (ran (come_to c.args.which) read (made_of c.args.which c.args.place c.args.column.now) c.args.tables)) (sym same)
    (ran_stops (come_to c.args.which) read (made_of c.args.which c.args.place c.args.column.now) c.args.tables c.in_err-runs.field-0.0 c.in_err-runs.ensures)

pub returns : goal.returns
returns c =
    ran_gives (come_to c.args.which) (λ (row : Row). number_of c.args.which (get row c.args.read.now)) (made_of c.args.which c.args.place c.args.column.now) c.args.tables
    c.in_ok-runs.runs c.in_ok-made.made c.in_ok-runs.ensures c.in_ok-made.ensures
