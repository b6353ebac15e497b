use Rattle.std.proofs.Common.{◌≡◌, ◌-◌, ◌+◌, Err, map, sym, ap, ◌∙◌, rules}
use Rattle.fx_ast.specs.Shape.{prop, tree_of}
use Rattle.fx_parse.specs.declared.function.Contents.{Contents}
use Rattle.fx_parse.specs.Gathering.{binding_view, block_from}
use Rattle.fx_parse.specs.Nests.{tree_in}
use Rattle.fx_parse.specs.ReadExprs.{read_expr}
use Rattle.fx_parse.proofs.turns.GatherLaws.{fails_as, block_end, block_end_bad, block_next, block_bad, block_none, pushed_prop}
use Rattle.fx_parse.proofs.turns.ListTurns.{one_more, no_more}
use Rattle.fx_parse.proofs.grammar.Grammar.block_found.Goals as goal

pub returns-then-sees_word : goal.returns-then-sees_word
returns-then-sees_word g c =
    let turn = one_more (λ n. block_from (read_expr c.args.levels) n (map prop c.loop-turn.lets.items) c.loop-turn.cursor) c.count-turn-end.result c.loop-turn._turn c.loop-turn-test.true c.loop-turn.invariant in
    turn ∙ block_end (read_expr c.args.levels) _ (map prop c.loop-turn.lets.items) c.loop-turn.cursor c.returned.new.cursor (tree_in c.in_ok-result.result) (sym c.sees_word.ensures ∙ c.if-sees_word.true) c.in_ok-result.ensures

pub returns-in_err-result : goal.returns-in_err-result
returns-in_err-result g c =
    let turn = one_more (λ n. block_from (read_expr c.args.levels) n (map prop c.loop-turn.lets.items) c.loop-turn.cursor) c.count-turn-end.result c.loop-turn._turn c.loop-turn-test.true c.loop-turn.invariant in
    let same : c.from_residual.result ≡ Err c.in_err-result.field-0.0 = search rules in
    rw same (fails_as tree_in (λ (b : Contents). (map prop b.lets.items, tree_of b.result.tree)) _ _ _ c.in_err-result.field-0.0 c.returned.new.cursor turn
    (λ deep r bad. block_end_bad (read_expr c.args.levels) _ (map prop c.loop-turn.lets.items) c.loop-turn.cursor r deep (sym c.sees_word.ensures ∙ c.if-sees_word.true) bad) c.in_err-result.ensures)

pub returns-in_err-label : goal.returns-in_err-label
returns-in_err-label g c =
    let turn = one_more (λ n. block_from (read_expr c.args.levels) n (map prop c.loop-turn.lets.items) c.loop-turn.cursor) c.count-turn-end.result c.loop-turn._turn c.loop-turn-test.true c.loop-turn.invariant in
    let same : c.from_residual-in_err-label.result ≡ Err c.in_err-label.field-0.0 = search rules in
    rw same (fails_as binding_view (λ (b : Contents). (map prop b.lets.items, tree_of b.result.tree)) _ _ _ c.in_err-label.field-0.0 c.binding.new.cursor turn
    (λ deep r bad. block_bad (read_expr c.args.levels) _ (map prop c.loop-turn.lets.items) c.loop-turn.cursor r deep (sym c.sees_word.ensures ∙ c.if-sees_word.false) bad) c.in_err-label.ensures)

pub loop-turn-preserved : goal.loop-turn-preserved
loop-turn-preserved g c =
    let turn = one_more (λ n. block_from (read_expr c.args.levels) n (map prop c.loop-turn.lets.items) c.loop-turn.cursor) c.count-turn-end.result c.loop-turn._turn c.loop-turn-test.true c.loop-turn.invariant in
    let left = c.count-turn-end.result - (c.loop-turn._turn + 1) in
    turn ∙ block_next (read_expr c.args.levels) left (map prop c.loop-turn.lets.items) c.loop-turn.cursor c.binding.new.cursor (binding_view c.in_ok-label.field-0)
    (sym c.sees_word.ensures ∙ c.if-sees_word.false) c.in_ok-label.ensures
    ∙ ap (λ ps. block_from (read_expr c.args.levels) left ps c.binding.new.cursor) (sym (pushed_prop c.loop-turn.lets.items c.push.new.self.items c.in_ok-label.field-0.label c.in_ok-label.field-0.value.tree c.in_ok-push.ensures))

pub returns : goal.returns
returns g c = no_more (λ n. block_from (read_expr c.args.levels) n (map prop c.loop-turn.lets.items) c.loop-turn.cursor) c.count-turn-end.result c.loop-turn._turn c.loop-turn-test.false c.loop-turn.invariant
    ∙ block_none (read_expr c.args.levels) (map prop c.loop-turn.lets.items) c.loop-turn.cursor
