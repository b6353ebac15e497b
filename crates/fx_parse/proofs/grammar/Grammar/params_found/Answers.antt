use Rattle.std.proofs.Common.{◌≡◌, ◌-◌, ◌+◌, Err, map, sym, ap, ◌∙◌, rules}
use Rattle.fx_ast.specs.Shape.{param}
use Rattle.fx_parse.specs.declared.lists.ParamList.{ParamList}
use Rattle.fx_parse.specs.Gathering.{param_view, params_from}
use Rattle.fx_parse.specs.ReadExprs.{read_expr}
use Rattle.fx_parse.specs.Readings.{Got}
use Rattle.fx_parse.proofs.turns.GatherLaws.{fails_as, params_end, params_next, params_last, params_bad, params_none, pushed_param}
use Rattle.fx_parse.proofs.turns.ListTurns.{one_more, no_more}
use Rattle.fx_parse.proofs.grammar.Grammar.params_found.Goals as goal

pub returns-then-sees_symbol : goal.returns-then-sees_symbol
returns-then-sees_symbol g c =
    let turn = one_more (λ n. params_from (read_expr c.args.levels) n (map param c.loop-turn.params.items) c.loop-turn.cursor) c.count-turn-end.result c.loop-turn._turn c.loop-turn-test.true c.loop-turn.invariant in
    turn ∙ params_end (read_expr c.args.levels) _ (map param c.loop-turn.params.items) c.loop-turn.cursor c.symbol.new.self c.in_ok-symbol.field-0.now (sym c.sees_symbol.ensures ∙ c.if-sees_symbol.true) c.in_ok-symbol.ensures

pub returns-in_err-label : goal.returns-in_err-label
returns-in_err-label g c =
    let turn = one_more (λ n. params_from (read_expr c.args.levels) n (map param c.loop-turn.params.items) c.loop-turn.cursor) c.count-turn-end.result c.loop-turn._turn c.loop-turn-test.true c.loop-turn.invariant in
    let same : c.from_residual-in_err-label.result ≡ Err c.in_err-label.field-0.0 = search rules in
    rw same (fails_as param_view (λ (ps : ParamList). map param ps.items) _ _ _ c.in_err-label.field-0.0 c.param.new.cursor turn
    (λ deep r bad. params_bad (read_expr c.args.levels) _ (map param c.loop-turn.params.items) c.loop-turn.cursor r deep (sym c.sees_symbol.ensures ∙ c.if-sees_symbol.false) bad) c.in_err-label.ensures)

pub returns-then-last : goal.returns-then-last
returns-then-last g c =
    let turn = one_more (λ n. params_from (read_expr c.args.levels) n (map param c.loop-turn.params.items) c.loop-turn.cursor) c.count-turn-end.result c.loop-turn._turn c.loop-turn-test.true c.loop-turn.invariant in
    turn ∙ params_last (read_expr c.args.levels) _ (map param c.loop-turn.params.items) c.loop-turn.cursor c.param.new.cursor (param_view c.in_ok-label.field-0)
    (sym c.sees_symbol.ensures ∙ c.if-sees_symbol.false) c.in_ok-label.ensures c.if-last.true
    ∙ ap (λ ps. Got ps c.param.new.cursor) (sym (pushed_param c.loop-turn.params.items c.push.new.self.items c.in_ok-label.field-0.label c.in_ok-label.field-0.default.how c.in_ok-push.ensures))

pub loop-turn-preserved : goal.loop-turn-preserved
loop-turn-preserved g c =
    let turn = one_more (λ n. params_from (read_expr c.args.levels) n (map param c.loop-turn.params.items) c.loop-turn.cursor) c.count-turn-end.result c.loop-turn._turn c.loop-turn-test.true c.loop-turn.invariant in
    let left = c.count-turn-end.result - (c.loop-turn._turn + 1) in
    turn ∙ params_next (read_expr c.args.levels) left (map param c.loop-turn.params.items) c.loop-turn.cursor c.param.new.cursor (param_view c.in_ok-label.field-0)
    (sym c.sees_symbol.ensures ∙ c.if-sees_symbol.false) c.in_ok-label.ensures c.if-last.false
    ∙ ap (λ ps. params_from (read_expr c.args.levels) left ps c.param.new.cursor) (sym (pushed_param c.loop-turn.params.items c.push.new.self.items c.in_ok-label.field-0.label c.in_ok-label.field-0.default.how c.in_ok-push.ensures))

pub returns : goal.returns
returns g c = no_more (λ n. params_from (read_expr c.args.levels) n (map param c.loop-turn.params.items) c.loop-turn.cursor) c.count-turn-end.result c.loop-turn._turn c.loop-turn-test.false c.loop-turn.invariant
    ∙ params_none (read_expr c.args.levels) (map param c.loop-turn.params.items) c.loop-turn.cursor
