use Rattle.std.proofs.Common.{suc, length, ◌+◌, ◌-◌, Err, rules, sym, ◌∙◌, subst, arith}
use Rattle.std.proofs.lemmas.Grind.{common_steps}
use Rattle.fx_ast.specs.Lists.{trees_before}
use Rattle.fx_parse.specs.ReadPrimary.{read_elements}
use Rattle.fx_parse.specs.Views.{trees}
use Rattle.fx_parse.proofs.turns.ListTurns.{one_more, no_more, elements_closed, elements_last, elements_next, elements_fail}
use Rattle.fx_parse.specs.ReadExprs.{read_expr}
use Rattle.fx_parse.specs.Readings.{mapped}
use Rattle.fx_parse.specs.Cursor.{Gives}
use Rattle.fx_parse.proofs.grammar.Grammar.elements.Goals as goal

pub returns-then-sees_symbol : goal.returns-then-sees_symbol
returns-then-sees_symbol g c =
    let e = one_more (λ n. mapped (trees_before c.loop-turn.found.items) (read_elements c.args.levels (read_expr c.args.levels) n c.loop-turn.cursor)) c.count-turn-end.result c.loop-turn._turn c.loop-turn-test.true c.loop-turn.invariant in
    e ∙ elements_closed c.args.levels (read_expr c.args.levels) (c.count-turn-end.result - (c.loop-turn._turn + 1)) c.loop-turn.cursor c.loop-turn.found.items c.in_ok-symbol.field-0.now c.symbol.new.self (sym c.sees_symbol.ensures ∙ c.if-sees_symbol.true) c.in_ok-symbol.ensures

pub returns-in_err-next : goal.returns-in_err-next
returns-in_err-next g c =
    let e = one_more (λ n. mapped (trees_before c.loop-turn.found.items) (read_elements c.args.levels (read_expr c.args.levels) n c.loop-turn.cursor)) c.count-turn-end.result c.loop-turn._turn c.loop-turn-test.true c.loop-turn.invariant in
    let h : Gives trees (mapped (trees_before c.loop-turn.found.items) (read_elements c.args.levels (read_expr c.args.levels) (suc (c.count-turn-end.result - (c.loop-turn._turn + 1))) c.loop-turn.cursor)) (Err c.in_err-next.field-0.0) c.element.new.cursor = elements_fail c.args.levels (read_expr c.args.levels) (c.count-turn-end.result - (c.loop-turn._turn + 1)) c.loop-turn.cursor c.loop-turn.found.items c.in_err-next.field-0.0 c.element.new.cursor (sym c.sees_symbol.ensures ∙ c.if-sees_symbol.false) c.in_err-next.ensures in
    let k : Gives trees (read_elements c.args.levels (read_expr c.args.levels) (length c.args.cursor.now) c.args.cursor.now) (Err c.in_err-next.field-0.0) c.element.new.cursor = subst (λ o. Gives trees o (Err c.in_err-next.field-0.0) c.element.new.cursor) (sym e) h in
    first_of (search rules, grind (arith, common_steps))

pub returns-then-next : goal.returns-then-next
returns-then-next g c =
    let e = one_more (λ n. mapped (trees_before c.loop-turn.found.items) (read_elements c.args.levels (read_expr c.args.levels) n c.loop-turn.cursor)) c.count-turn-end.result c.loop-turn._turn c.loop-turn-test.true c.loop-turn.invariant in
    e ∙ elements_last c.args.levels (read_expr c.args.levels) (c.count-turn-end.result - (c.loop-turn._turn + 1)) c.loop-turn.cursor c.loop-turn.found.items c.push.new.self.items c.in_ok-next.next.value.tree c.in_ok-next.next.last c.element.new.cursor (sym c.sees_symbol.ensures ∙ c.if-sees_symbol.false) c.in_ok-next.ensures c.if-next.true c.in_ok-push.ensures

pub loop-turn-preserved : goal.loop-turn-preserved
loop-turn-preserved g c =
    let e = one_more (λ n. mapped (trees_before c.loop-turn.found.items) (read_elements c.args.levels (read_expr c.args.levels) n c.loop-turn.cursor)) c.count-turn-end.result c.loop-turn._turn c.loop-turn-test.true c.loop-turn.invariant in
    e ∙ elements_next c.args.levels (read_expr c.args.levels) (c.count-turn-end.result - (c.loop-turn._turn + 1)) c.loop-turn.cursor c.loop-turn.found.items c.push.new.self.items c.in_ok-next.next.value.tree c.in_ok-next.next.last c.element.new.cursor (sym c.sees_symbol.ensures ∙ c.if-sees_symbol.false) c.in_ok-next.ensures c.if-next.false c.in_ok-push.ensures

pub returns : goal.returns
unfolding read_elements
returns g c =
    no_more (λ n. mapped (trees_before c.loop-turn.found.items) (read_elements c.args.levels (read_expr c.args.levels) n c.loop-turn.cursor)) c.count-turn-end.result c.loop-turn._turn (omega (arith, c.loop-turn-test.false)) c.loop-turn.invariant
