use Rattle.std.proofs.Common.{◌≡◌, ◌-◌, ◌+◌, Err, sym, ◌∙◌, subst, rules}
use Rattle.fx_ast.specs.Shape.{statement_tree}
use Rattle.fx_parse.specs.Cursor.{Gives}
use Rattle.fx_parse.specs.Opening.{statement_trees, imports_after}
use Rattle.fx_parse.specs.ReadExprs.{read_expr}
use Rattle.fx_parse.proofs.turns.GatherLaws.{fails_as}
use Rattle.fx_parse.proofs.turns.ListTurns.{one_more, no_more}
use Rattle.fx_parse.proofs.turns.StatementLaws.{imports_none, imports_end, imports_bad, imports_next}
use Rattle.fx_parse.proofs.grammar.Grammar.imports.Goals as goal

pub returns-then-not-sees_word : goal.returns-then-not-sees_word
returns-then-not-sees_word g c =
    let turn = one_more (λ n. imports_after (read_expr c.args.levels) n c.loop-turn.found c.loop-turn.cursor) c.count-turn-end.result c.loop-turn._turn c.loop-turn-test.true c.loop-turn.invariant in
    subst (λ o. Gives statement_trees o c.statements.result c.statements.new.cursor)
    (sym (turn ∙ imports_end (read_expr c.args.levels) _ c.loop-turn.found c.loop-turn.cursor (sym c.sees_word.ensures ∙ c.if-not-sees_word.true)))
    c.statements.ensures

pub returns-in_err-next : goal.returns-in_err-next
returns-in_err-next g c =
    let turn = one_more (λ n. imports_after (read_expr c.args.levels) n c.loop-turn.found c.loop-turn.cursor) c.count-turn-end.result c.loop-turn._turn c.loop-turn-test.true c.loop-turn.invariant in
    let same : c.from_residual.result ≡ Err c.in_err-next.field-0.0 = search rules in
    rw same (fails_as statement_tree statement_trees _ _ _ c.in_err-next.field-0.0 c.import.new.cursor turn
    (λ deep r bad. imports_bad (read_expr c.args.levels) _ c.loop-turn.found c.loop-turn.cursor r deep (sym c.sees_word.ensures ∙ c.if-not-sees_word.false) bad) c.in_err-next.ensures)

pub loop-turn-preserved : goal.loop-turn-preserved
loop-turn-preserved g c =
    let turn = one_more (λ n. imports_after (read_expr c.args.levels) n c.loop-turn.found c.loop-turn.cursor) c.count-turn-end.result c.loop-turn._turn c.loop-turn-test.true c.loop-turn.invariant in
    turn ∙ imports_next (read_expr c.args.levels) (c.count-turn-end.result - (c.loop-turn._turn + 1)) c.loop-turn.found c.push.new.self c.in_ok-next.next c.loop-turn.cursor c.import.new.cursor
    (sym c.sees_word.ensures ∙ c.if-not-sees_word.false) c.in_ok-next.ensures c.in_ok-push.ensures.ok

pub returns : goal.returns
returns g c =
    subst (λ o. Gives statement_trees o c.statements-2.result c.statements-2.new.cursor)
    (sym (no_more (λ n. imports_after (read_expr c.args.levels) n c.loop-turn.found c.loop-turn.cursor) c.count-turn-end.result c.loop-turn._turn c.loop-turn-test.false c.loop-turn.invariant
    ∙ imports_none (read_expr c.args.levels) c.loop-turn.found c.loop-turn.cursor))
    c.statements-2.ensures
