use Rattle.fx_values.specs.Known.{hears}
use Rattle.fx_values.specs.Shape.{val}
use Rattle.fx_rowfn.proofs.AnswerLaws.{budget_of_copy, fault_of_copy, stuck_of_copy, value_of_copy}
use Rattle.fx_rowfn.proofs.expression.evaluate_in.Goals as goal

pub unreachable-requires : goal.unreachable-requires
unreachable-requires g c =
    stuck_of_copy (hears c.args.known.now (g.P.Patterns.test c.args.patterns.now)) c.args.scope c.in_ok-expr.expr c.args.expr.now c.args.meter.now c.run.new.meter c.in_ok-expr.ensures
    c.in-Err-Stuck.field-0 c.in-Err-Stuck.field-0-is c.requires.unstuck c.in-Err-Stuck.ensures.follows

pub returns-in-Ok-clause-answer : goal.returns-in-Ok-clause-answer
returns-in-Ok-clause-answer g c =
    value_of_copy (hears c.args.known.now (g.P.Patterns.test c.args.patterns.now)) c.args.scope c.in_ok-expr.expr c.args.expr.now c.args.meter.now c.run.new.meter c.in_ok-expr.ensures
    (val c.in-Ok.value) c.in-Ok.ensures.follows

pub returns-in-Err-Fault-clause-answer : goal.returns-in-Err-Fault-clause-answer
returns-in-Err-Fault-clause-answer g c =
    fault_of_copy (hears c.args.known.now (g.P.Patterns.test c.args.patterns.now)) c.args.scope c.in_ok-expr.expr c.args.expr.now c.args.meter.now c.run.new.meter c.in_ok-expr.ensures
    c.in-Err-Fault.field-0 c.in-Err-Fault.fault c.in-Err-Fault.field-0-is c.in-Err-Fault.ensures.follows

pub returns-in-Err-Budget-clause-answer : goal.returns-in-Err-Budget-clause-answer
returns-in-Err-Budget-clause-answer g c =
    budget_of_copy (hears c.args.known.now (g.P.Patterns.test c.args.patterns.now)) c.args.scope c.in_ok-expr.expr c.args.expr.now c.args.meter.now c.run.new.meter c.in_ok-expr.ensures
    c.in-Err-Budget.field-0 c.in-Err-Budget.ticks c.in-Err-Budget.field-0-is c.in-Err-Budget.ensures.follows
