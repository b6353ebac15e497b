use Rattle.std.proofs.Common.{suc, length, ◌+◌, ◌-◌, Err, rules, sym, ◌∙◌, subst, arith}
use Rattle.std.proofs.lemmas.Grind.{common_steps}
use Rattle.fx_ast.specs.Lists.{parts_before}
use Rattle.fx_parse.specs.ReadPrimary.{read_holes}
use Rattle.fx_parse.specs.Views.{parts}
use Rattle.fx_parse.proofs.turns.ListTurns.{one_more, no_more, holes_last, holes_next, holes_fail}
use Rattle.fx_parse.specs.ReadExprs.{read_expr}
use Rattle.fx_parse.specs.Readings.{mapped}
use Rattle.fx_parse.specs.Cursor.{Gives}
use Rattle.fx_parse.proofs.grammar.Grammar.holes.Goals as goal

pub returns-in_err-next : goal.returns-in_err-next
returns-in_err-next g c =
    let e = one_more (λ n. mapped (parts_before c.loop-turn.found.items) (read_holes (read_expr c.args.levels) n c.loop-turn.cursor)) c.count-turn-end.result c.loop-turn._turn c.loop-turn-test.true c.loop-turn.invariant in
    let h : Gives parts (mapped (parts_before c.loop-turn.found.items) (read_holes (read_expr c.args.levels) (suc (c.count-turn-end.result - (c.loop-turn._turn + 1))) c.loop-turn.cursor)) (Err c.in_err-next.field-0.0) c.hole.new.cursor = holes_fail (read_expr c.args.levels) (c.count-turn-end.result - (c.loop-turn._turn + 1)) c.loop-turn.cursor c.loop-turn.found.items c.in_err-next.field-0.0 c.hole.new.cursor c.in_err-next.ensures in
    let k : Gives parts (mapped (parts_before c.args.found.items) (read_holes (read_expr c.args.levels) (length c.args.cursor.now) c.args.cursor.now)) (Err c.in_err-next.field-0.0) c.hole.new.cursor = subst (λ o. Gives parts o (Err c.in_err-next.field-0.0) c.hole.new.cursor) (sym e) h in
    first_of (search rules, grind (arith, common_steps))

pub returns-then-next : goal.returns-then-next
returns-then-next g c =
    let e = one_more (λ n. mapped (parts_before c.loop-turn.found.items) (read_holes (read_expr c.args.levels) n c.loop-turn.cursor)) c.count-turn-end.result c.loop-turn._turn c.loop-turn-test.true c.loop-turn.invariant in
    e ∙ holes_last (read_expr c.args.levels) (c.count-turn-end.result - (c.loop-turn._turn + 1)) c.loop-turn.cursor c.loop-turn.found.items c.push_hole.new.self.items c.push_piece.new.self.items c.in_ok-next.next.inner.tree c.in_ok-next.next.piece c.in_ok-next.next.last c.hole.new.cursor c.in_ok-next.ensures c.if-next.true c.in_ok-push_hole.ensures c.in_ok-push_piece.ensures

pub loop-turn-preserved : goal.loop-turn-preserved
loop-turn-preserved g c =
    let e = one_more (λ n. mapped (parts_before c.loop-turn.found.items) (read_holes (read_expr c.args.levels) n c.loop-turn.cursor)) c.count-turn-end.result c.loop-turn._turn c.loop-turn-test.true c.loop-turn.invariant in
    e ∙ holes_next (read_expr c.args.levels) (c.count-turn-end.result - (c.loop-turn._turn + 1)) c.loop-turn.cursor c.loop-turn.found.items c.push_hole.new.self.items c.push_piece.new.self.items c.in_ok-next.next.inner.tree c.in_ok-next.next.piece c.in_ok-next.next.last c.hole.new.cursor c.in_ok-next.ensures c.if-next.false c.in_ok-push_hole.ensures c.in_ok-push_piece.ensures

pub returns : goal.returns
unfolding read_holes
returns g c =
    no_more (λ n. mapped (parts_before c.loop-turn.found.items) (read_holes (read_expr c.args.levels) n c.loop-turn.cursor)) c.count-turn-end.result c.loop-turn._turn (omega (arith, c.loop-turn-test.false)) c.loop-turn.invariant
