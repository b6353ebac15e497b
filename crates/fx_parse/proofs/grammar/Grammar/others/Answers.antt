use Rattle.std.proofs.Common.{suc, ◌+◌, ◌-◌, Err, rules, sym, ◌∙◌, subst, arith}
use Rattle.std.proofs.lemmas.Grind.{common_steps}
use Rattle.fx_ast.specs.Lists.{props_before}
use Rattle.fx_parse.specs.ReadProps.{read_props}
use Rattle.fx_parse.specs.Views.{group, props}
use Rattle.fx_parse.proofs.turns.ListTurns.{one_more, no_more, props_closed, props_last, props_next, props_fail}
use Rattle.fx_parse.specs.ReadExprs.{read_expr}
use Rattle.fx_parse.specs.Readings.{mapped}
use Rattle.fx_parse.specs.Cursor.{Gives}
use Rattle.fx_parse.proofs.grammar.Grammar.others.Goals as goal

pub returns-then-sees_symbol : goal.returns-then-sees_symbol
returns-then-sees_symbol g c =
    let e = one_more (λ n. mapped (props_before c.loop-turn.found.items) (read_props (group c.args.kind) c.args.levels (read_expr c.args.levels) n c.loop-turn.cursor)) c.args.turns c.loop-turn._turn c.loop-turn-test.true c.loop-turn.invariant in
    e ∙ props_closed (group c.args.kind) c.args.levels (read_expr c.args.levels) (c.args.turns - (c.loop-turn._turn + 1)) c.loop-turn.cursor c.loop-turn.found.items c.in_ok-symbol.field-0.now c.symbol.new.self (sym (rw c.close.ensures at c.sees_symbol.ensures) ∙ c.if-sees_symbol.true) (rw c.close-then-sees_symbol.ensures at c.in_ok-symbol.ensures)

pub returns-in_err-next : goal.returns-in_err-next
returns-in_err-next g c =
    let e = one_more (λ n. mapped (props_before c.loop-turn.found.items) (read_props (group c.args.kind) c.args.levels (read_expr c.args.levels) n c.loop-turn.cursor)) c.args.turns c.loop-turn._turn c.loop-turn-test.true c.loop-turn.invariant in
    let h : Gives props (mapped (props_before c.loop-turn.found.items) (read_props (group c.args.kind) c.args.levels (read_expr c.args.levels) (suc (c.args.turns - (c.loop-turn._turn + 1))) c.loop-turn.cursor)) (Err c.in_err-next.field-0.0) c.labelled.new.cursor = props_fail (group c.args.kind) c.args.levels (read_expr c.args.levels) (c.args.turns - (c.loop-turn._turn + 1)) c.loop-turn.cursor c.loop-turn.found.items c.in_err-next.field-0.0 c.labelled.new.cursor (sym (rw c.close.ensures at c.sees_symbol.ensures) ∙ c.if-sees_symbol.false) c.in_err-next.ensures in
    let k : Gives props (mapped (props_before c.args.found.items) (read_props (group c.args.kind) c.args.levels (read_expr c.args.levels) c.args.turns c.args.cursor.now)) (Err c.in_err-next.field-0.0) c.labelled.new.cursor = subst (λ o. Gives props o (Err c.in_err-next.field-0.0) c.labelled.new.cursor) (sym e) h in
    first_of (search rules, grind (arith, common_steps))

pub returns-then-next : goal.returns-then-next
returns-then-next g c =
    let e = one_more (λ n. mapped (props_before c.loop-turn.found.items) (read_props (group c.args.kind) c.args.levels (read_expr c.args.levels) n c.loop-turn.cursor)) c.args.turns c.loop-turn._turn c.loop-turn-test.true c.loop-turn.invariant in
    e ∙ props_last (group c.args.kind) c.args.levels (read_expr c.args.levels) (c.args.turns - (c.loop-turn._turn + 1)) c.loop-turn.cursor c.loop-turn.found.items c.push.new.self.items c.in_ok-next.next.label c.in_ok-next.next.value.tree c.in_ok-next.next.last c.labelled.new.cursor (sym (rw c.close.ensures at c.sees_symbol.ensures) ∙ c.if-sees_symbol.false) c.in_ok-next.ensures c.if-next.true c.in_ok-push.ensures

pub loop-turn-preserved : goal.loop-turn-preserved
loop-turn-preserved g c =
    let e = one_more (λ n. mapped (props_before c.loop-turn.found.items) (read_props (group c.args.kind) c.args.levels (read_expr c.args.levels) n c.loop-turn.cursor)) c.args.turns c.loop-turn._turn c.loop-turn-test.true c.loop-turn.invariant in
    e ∙ props_next (group c.args.kind) c.args.levels (read_expr c.args.levels) (c.args.turns - (c.loop-turn._turn + 1)) c.loop-turn.cursor c.loop-turn.found.items c.push.new.self.items c.in_ok-next.next.label c.in_ok-next.next.value.tree c.in_ok-next.next.last c.labelled.new.cursor (sym (rw c.close.ensures at c.sees_symbol.ensures) ∙ c.if-sees_symbol.false) c.in_ok-next.ensures c.if-next.false c.in_ok-push.ensures

pub returns : goal.returns
unfolding read_props
returns g c =
    no_more (λ n. mapped (props_before c.loop-turn.found.items) (read_props (group c.args.kind) c.args.levels (read_expr c.args.levels) n c.loop-turn.cursor)) c.args.turns c.loop-turn._turn (omega (arith, c.loop-turn-test.false)) c.loop-turn.invariant
