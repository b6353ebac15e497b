use Rattle.std.proofs.Common.{◌≡◌, ◌-◌, ◌+◌, ◌++◌, Err, None, map, sym, ◌∙◌, rules}
use Rattle.fx_ast.specs.Shape.{tree_of}
use Rattle.fx_parse.specs.declared.lists.ExprList.{ExprList}
use Rattle.fx_parse.specs.Operations.{operand_of, call_of}
use Rattle.fx_parse.specs.Readings.{links, mapped}
use Rattle.fx_parse.specs.ReadRuns.{operator_run}
use Rattle.fx_parse.specs.Nests.{tree_in}
use Rattle.fx_parse.proofs.turns.GatherLaws.{fails_as}
use Rattle.fx_parse.proofs.turns.ListTurns.{one_more, no_more}
use Rattle.fx_parse.proofs.turns.RunTurns.{run_end, run_bad, run_next, run_none, pushed_tree}
use Rattle.fx_parse.proofs.grammar.Grammar.calls.Goals as goal

pub returns-then-not-sees_operator : goal.returns-then-not-sees_operator
returns-then-not-sees_operator g c =
    let turn = one_more (λ n. mapped (λ xs. map tree_of c.loop-turn.found.items ++ xs) (mapped (map call_of) (links (operator_run c.args.self.now.depth 1 (operand_of c.args.self.now.depth 1)) n None c.loop-turn.cursor))) c.count-turn-end.result c.loop-turn._turn c.loop-turn-test.true c.loop-turn.invariant in
    turn ∙ run_end call_of c.args.self.now.depth 1 (operand_of c.args.self.now.depth 1) (c.count-turn-end.result - (c.loop-turn._turn + 1)) (map tree_of c.loop-turn.found.items) c.loop-turn.cursor (sym c.sees_operator.ensures ∙ c.if-not-sees_operator.true)

pub returns-in_err-call : goal.returns-in_err-call
returns-in_err-call g c =
    let turn = one_more (λ n. mapped (λ xs. map tree_of c.loop-turn.found.items ++ xs) (mapped (map call_of) (links (operator_run c.args.self.now.depth 1 (operand_of c.args.self.now.depth 1)) n None c.loop-turn.cursor))) c.count-turn-end.result c.loop-turn._turn c.loop-turn-test.true c.loop-turn.invariant in
    let same : c.from_residual.result ≡ Err c.in_err-call.field-0.0 = search rules in
    rw same (fails_as tree_in (λ (ls : ExprList). map tree_of ls.items) _ _ _ c.in_err-call.field-0.0 c.piped.new.cursor turn
    (λ deep r bad. run_bad call_of c.args.self.now.depth 1 (operand_of c.args.self.now.depth 1) (c.count-turn-end.result - (c.loop-turn._turn + 1)) (map tree_of c.loop-turn.found.items) deep c.loop-turn.cursor r (sym c.sees_operator.ensures ∙ c.if-not-sees_operator.false) bad) c.in_err-call.ensures)

pub loop-turn-preserved : goal.loop-turn-preserved
loop-turn-preserved g c =
    let turn = one_more (λ n. mapped (λ xs. map tree_of c.loop-turn.found.items ++ xs) (mapped (map call_of) (links (operator_run c.args.self.now.depth 1 (operand_of c.args.self.now.depth 1)) n None c.loop-turn.cursor))) c.count-turn-end.result c.loop-turn._turn c.loop-turn-test.true c.loop-turn.invariant in
    turn ∙ run_next call_of c.args.self.now.depth 1 (operand_of c.args.self.now.depth 1) (c.count-turn-end.result - (c.loop-turn._turn + 1)) (map tree_of c.loop-turn.found.items) (map tree_of c.push.new.self.items) (tree_of c.in_ok-call.call.tree) c.loop-turn.cursor c.piped.new.cursor
    (sym c.sees_operator.ensures ∙ c.if-not-sees_operator.false) c.in_ok-call.ensures (pushed_tree c.loop-turn.found.items c.push.new.self.items c.in_ok-call.call.tree c.in_ok-push.ensures)

pub returns : goal.returns
returns g c = no_more (λ n. mapped (λ xs. map tree_of c.loop-turn.found.items ++ xs) (mapped (map call_of) (links (operator_run c.args.self.now.depth 1 (operand_of c.args.self.now.depth 1)) n None c.loop-turn.cursor))) c.count-turn-end.result c.loop-turn._turn c.loop-turn-test.false c.loop-turn.invariant
    ∙ run_none call_of c.args.self.now.depth 1 (operand_of c.args.self.now.depth 1) (map tree_of c.loop-turn.found.items) c.loop-turn.cursor
