use Rattle.std.proofs.Common.{◌≡◌, ◌-◌, ◌+◌, ◌++◌, Err, None, map, sym, ◌∙◌, rules}
use Rattle.fx_ast.specs.Shape.{link}
use Rattle.fx_parse.specs.declared.lists.LinkList.{LinkList}
use Rattle.fx_parse.specs.Operations.{operand_of, operation, operation_view}
use Rattle.fx_parse.specs.Readings.{links, mapped}
use Rattle.fx_parse.specs.ReadRuns.{operator_run}
use Rattle.fx_parse.proofs.turns.GatherLaws.{fails_as}
use Rattle.fx_parse.proofs.turns.ListTurns.{one_more, no_more}
use Rattle.fx_parse.proofs.turns.RunTurns.{run_end, run_bad, run_next, run_none, pushed_link}
use Rattle.fx_parse.proofs.grammar.Grammar.operations.Goals as goal

pub returns-then-not-sees_operator : goal.returns-then-not-sees_operator
returns-then-not-sees_operator g c =
    let turn = one_more (λ n. mapped (λ xs. map link c.loop-turn.found.items ++ xs) (mapped (map operation) (links (operator_run c.args.self.now.depth c.args.line (operand_of c.args.self.now.depth c.args.line)) n None c.loop-turn.cursor))) c.count-turn-end.result c.loop-turn._turn c.loop-turn-test.true c.loop-turn.invariant in
    turn ∙ run_end operation c.args.self.now.depth c.args.line (operand_of c.args.self.now.depth c.args.line) (c.count-turn-end.result - (c.loop-turn._turn + 1)) (map link c.loop-turn.found.items) c.loop-turn.cursor (sym c.sees_operator.ensures ∙ c.if-not-sees_operator.true)

pub returns-in_err-place : goal.returns-in_err-place
returns-in_err-place g c =
    let turn = one_more (λ n. mapped (λ xs. map link c.loop-turn.found.items ++ xs) (mapped (map operation) (links (operator_run c.args.self.now.depth c.args.line (operand_of c.args.self.now.depth c.args.line)) n None c.loop-turn.cursor))) c.count-turn-end.result c.loop-turn._turn c.loop-turn-test.true c.loop-turn.invariant in
    let same : c.from_residual.result ≡ Err c.in_err-place.field-0.0 = search rules in
    rw same (fails_as operation_view (λ (ls : LinkList). map link ls.items) _ _ _ c.in_err-place.field-0.0 c.operation.new.cursor turn
    (λ deep r bad. run_bad operation c.args.self.now.depth c.args.line (operand_of c.args.self.now.depth c.args.line) (c.count-turn-end.result - (c.loop-turn._turn + 1)) (map link c.loop-turn.found.items) deep c.loop-turn.cursor r (sym c.sees_operator.ensures ∙ c.if-not-sees_operator.false) bad) c.in_err-place.ensures)

pub loop-turn-preserved : goal.loop-turn-preserved
loop-turn-preserved g c =
    let turn = one_more (λ n. mapped (λ xs. map link c.loop-turn.found.items ++ xs) (mapped (map operation) (links (operator_run c.args.self.now.depth c.args.line (operand_of c.args.self.now.depth c.args.line)) n None c.loop-turn.cursor))) c.count-turn-end.result c.loop-turn._turn c.loop-turn-test.true c.loop-turn.invariant in
    turn ∙ run_next operation c.args.self.now.depth c.args.line (operand_of c.args.self.now.depth c.args.line) (c.count-turn-end.result - (c.loop-turn._turn + 1)) (map link c.loop-turn.found.items) (map link c.push.new.self.items) (operation_view c.in_ok-place.field-0) c.loop-turn.cursor c.operation.new.cursor
    (sym c.sees_operator.ensures ∙ c.if-not-sees_operator.false) c.in_ok-place.ensures (pushed_link c.loop-turn.found.items c.push.new.self.items c.in_ok-place.field-0.place c.in_ok-place.field-0.op c.in_ok-place.field-0.right.tree c.in_ok-push.ensures)

pub returns : goal.returns
returns g c = no_more (λ n. mapped (λ xs. map link c.loop-turn.found.items ++ xs) (mapped (map operation) (links (operator_run c.args.self.now.depth c.args.line (operand_of c.args.self.now.depth c.args.line)) n None c.loop-turn.cursor))) c.count-turn-end.result c.loop-turn._turn c.loop-turn-test.false c.loop-turn.invariant
    ∙ run_none operation c.args.self.now.depth c.args.line (operand_of c.args.self.now.depth c.args.line) (map link c.loop-turn.found.items) c.loop-turn.cursor
