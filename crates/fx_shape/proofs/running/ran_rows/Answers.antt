use Rattle.std.proofs.Common.{◌≡◌, sym, ap, subst, ◌∙◌, rules}
use Rattle.std.specs.FinMap.{get}
use Rattle.std.specs.Prelude.{Err, None}
use Rattle.fx_group.specs.Answer.{Row}
use Rattle.fx_value.specs.Calls.{Told}
use Rattle.fx_shape.specs.Outcome.{come_to, made_of, number_of}
use Rattle.fx_shape.specs.Running.{ran_rows}
use Rattle.fx_shape.proofs.Ran.{row_unstuck, row_goes, row_stops}
use Rattle.fx_shape.proofs.running.ran_rows.Goals as goal

pub number_at-number-requires : goal.number_at-number-requires
number_at-number-requires c = λ stuck.
    row_unstuck c.args.which c.args.place c.args.column.now c.args.read.now c.args.rows c.loop-row.made.items c.loop-row.before c.loop-row.row-iterator.rest.items
    c.loop-row.invariant c.in-Some.row c.next.new.self.rest.items c.in-Some.ensures.steps.0 c.requires.unstuck (ap (number_of c.args.which) (sym c.get.ensures) ∙ stuck)

pub returns-in_err-outcome : goal.returns-in_err-outcome
returns-in_err-outcome c =
    let all = ran_rows (come_to c.args.which) (λ (row : Row). number_of c.args.which (get row c.args.read.now)) (made_of c.args.which c.args.place c.args.column.now) None c.args.rows in
    let same : c.from_residual-in_err-outcome.result ≡ Err c.in_err-outcome.field-0.0 = search rules in
    subst (Told all) (sym same)
    (row_stops c.args.which c.args.place c.args.column.now c.args.read.now c.args.rows c.loop-row.made.items c.loop-row.before c.loop-row.row-iterator.rest.items
    c.loop-row.invariant c.in-Some.row c.next.new.self.rest.items c.in-Some.ensures.steps.0 c.number_at-number.result (ap (number_of c.args.which) (sym c.get.ensures) ∙ c.number_at-number.ensures)
    c.in_err-outcome.field-0.0 c.in_err-outcome.ensures)

pub loop-row-preserved : goal.loop-row-preserved
loop-row-preserved c =
    row_goes c.args.which c.args.place c.args.column.now c.args.read.now c.args.rows c.loop-row.made.items c.loop-row.before c.loop-row.row-iterator.rest.items
    c.loop-row.invariant c.in-Some.row c.next.new.self.rest.items c.in-Some.ensures.steps.0 c.number_at-number.result (ap (number_of c.args.which) (sym c.get.ensures) ∙ c.number_at-number.ensures)
    c.in_ok-outcome.outcome c.in_ok-outcome.ensures c.apply.new.rows.items c.in_ok-apply.ensures c.come_to-before.result c.come_to-before.ensures
