use Rattle.std.proofs.Common.{◌≡◌, ◌-◌, ◌+◌, Err, sym, ◌∙◌, rules}
use Rattle.fx_ast.specs.Shape.{statement_tree}
use Rattle.fx_parse.specs.Opening.{statement_trees, statements_after}
use Rattle.fx_parse.specs.ReadExprs.{read_expr}
use Rattle.fx_parse.proofs.turns.GatherLaws.{fails_as}
use Rattle.fx_parse.proofs.turns.ListTurns.{one_more, no_more}
use Rattle.fx_parse.proofs.turns.StatementLaws.{statements_done, statements_none, statements_bad, statements_next}
use Rattle.fx_parse.proofs.grammar.Grammar.statements.Goals as goal

pub returns-then-ends : goal.returns-then-ends
returns-then-ends g c = c.loop-turn.invariant
    ∙ statements_done (read_expr c.args.levels) _ c.loop-turn.follows c.loop-turn.found c.loop-turn.cursor (sym c.ends.ensures ∙ c.if-ends.true)

pub returns-in_err-next : goal.returns-in_err-next
returns-in_err-next g c =
    let turn = one_more (λ n. statements_after (read_expr c.args.levels) n c.loop-turn.follows c.loop-turn.found c.loop-turn.cursor) c.count-turn-end.result c.loop-turn._turn c.loop-turn-test.true c.loop-turn.invariant in
    let same : c.from_residual.result ≡ Err c.in_err-next.field-0.0 = search rules in
    rw same (fails_as statement_tree statement_trees _ _ _ c.in_err-next.field-0.0 c.following.new.cursor turn
    (λ deep r bad. statements_bad (read_expr c.args.levels) _ c.loop-turn.follows c.loop-turn.found c.loop-turn.cursor r deep (sym c.ends.ensures ∙ c.if-ends.false) bad) c.in_err-next.ensures)

pub loop-turn-preserved : goal.loop-turn-preserved
loop-turn-preserved g c =
    let turn = one_more (λ n. statements_after (read_expr c.args.levels) n c.loop-turn.follows c.loop-turn.found c.loop-turn.cursor) c.count-turn-end.result c.loop-turn._turn c.loop-turn-test.true c.loop-turn.invariant in
    turn ∙ statements_next (read_expr c.args.levels) (c.count-turn-end.result - (c.loop-turn._turn + 1)) c.loop-turn.follows c.loop-turn.found c.push.new.self c.in_ok-next.next c.loop-turn.cursor c.following.new.cursor
    (sym c.ends.ensures ∙ c.if-ends.false) c.in_ok-next.ensures c.in_ok-push.ensures.ok

pub returns-then-ends-2 : goal.returns-then-ends-2
returns-then-ends-2 g c = c.loop-turn.invariant
    ∙ statements_done (read_expr c.args.levels) _ c.loop-turn.follows c.loop-turn.found c.loop-turn.cursor (sym c.ends-2.ensures ∙ c.if-ends-2.true)

pub returns : goal.returns
returns g c = no_more (λ n. statements_after (read_expr c.args.levels) n c.loop-turn.follows c.loop-turn.found c.loop-turn.cursor) c.count-turn-end.result c.loop-turn._turn c.loop-turn-test.false c.loop-turn.invariant
    ∙ statements_none (read_expr c.args.levels) c.loop-turn.follows c.loop-turn.found c.loop-turn.cursor (sym c.ends-2.ensures ∙ c.if-ends-2.false)
