use Rattle.std.proofs.Common.{◌+◌, sym, ap, subst, [], map, take}
use Rattle.fx_ast.specs.Shape.{statement_form, statement_tree}
use Rattle.fx_infer.specs.Script.{after_all}
use Rattle.fx_infer.specs.Statements.{IsEnv, Leads}
use Rattle.fx_infer.proofs.StatementLaws.{one_typed, one_after, one_untyped}
use Rattle.fx_infer.proofs.script.first_untyped.Goals as goal

pub returns-in-None : goal.returns-in-None
returns-in-None c =
    let before = after_all (take c.loop-statement.statement-index (map statement_tree c.args.statements.now)) [] in
    one_untyped c.args.statements.now c.loop-statement.statement-index c.statement-item.result c.loop-statement-test.true c.statement-item.is (c.loop-statement.number + 1)
    (ap (λ n. n + 1) c.loop-statement.invariant.0) c.loop-statement.invariant.2
    (subst (Leads before (statement_form c.statement-item.result.form)) c.in-None.is (c.in_ok-names.ensures before c.loop-statement.invariant.1))

pub loop-statement-preserved : goal.loop-statement-preserved
loop-statement-preserved c =
    let before = after_all (take c.loop-statement.statement-index (map statement_tree c.args.statements.now)) [] in
    let led = subst (Leads before (statement_form c.statement-item.result.form)) c.in-Some.is (c.in_ok-names.ensures before c.loop-statement.invariant.1) in (
      ap (λ n. n + 1) c.loop-statement.invariant.0,
      subst (λ env. IsEnv env c.in-Some.names) (sym (one_after c.args.statements.now c.loop-statement.statement-index c.statement-item.result c.loop-statement-test.true c.statement-item.is)) led.1,
      one_typed c.args.statements.now c.loop-statement.statement-index c.statement-item.result c.loop-statement-test.true c.statement-item.is c.loop-statement.invariant.2 led.0,
    )
