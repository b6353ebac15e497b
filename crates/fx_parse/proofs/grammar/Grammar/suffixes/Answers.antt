use Rattle.std.proofs.Common.{◌+◌, ◌-◌, sym, subst, ◌∙◌}
use Rattle.fx_ast.specs.Shape.{tree_of}
use Rattle.fx_parse.specs.Cursor.{Gives}
use Rattle.fx_parse.specs.Nests.{tree_in}
use Rattle.fx_parse.specs.ReadExprs.{read_expr}
use Rattle.fx_parse.specs.ReadRuns.{suffixes}
use Rattle.fx_parse.specs.Readings.{links}
use Rattle.fx_parse.proofs.turns.ListTurns.{one_more}
use Rattle.fx_parse.proofs.turns.SuffixTurns.{suffix_none, suffix_next}
use Rattle.fx_parse.proofs.grammar.Grammar.suffixes.Goals as goal

pub returns-then-not-sees_suffix : goal.returns-then-not-sees_suffix
returns-then-not-sees_suffix g c =
    let e = one_more (λ n. links (suffixes c.args.must_call c.args.begin c.args.self.now.depth c.args.levels (read_expr c.args.self.now.depth) (read_expr c.args.levels)) n (tree_of c.loop-turn.operand.tree) c.loop-turn.cursor) c.count-turn-end.result c.loop-turn._turn c.loop-turn-test.true c.loop-turn.invariant in
    subst (λ o. Gives tree_in o c.ended.result c.loop-turn.cursor)
    (sym (e ∙ suffix_none c.args.must_call c.args.begin c.args.self.now.depth c.args.levels (read_expr c.args.self.now.depth) (read_expr c.args.levels) (c.count-turn-end.result - (c.loop-turn._turn + 1)) (tree_of c.loop-turn.operand.tree) c.loop-turn.cursor (sym c.sees_suffix.ensures ∙ c.if-not-sees_suffix.true)))
    c.ended.ensures

pub loop-turn-preserved : goal.loop-turn-preserved
loop-turn-preserved g c =
    let e = one_more (λ n. links (suffixes c.args.must_call c.args.begin c.args.self.now.depth c.args.levels (read_expr c.args.self.now.depth) (read_expr c.args.levels)) n (tree_of c.loop-turn.operand.tree) c.loop-turn.cursor) c.count-turn-end.result c.loop-turn._turn c.loop-turn-test.true c.loop-turn.invariant in
    let room = rw c.limit.ensures at c.fits.ensures in
    e ∙ suffix_next c.args.must_call c.args.begin c.args.self.now.depth c.args.levels (read_expr c.args.self.now.depth) (read_expr c.args.levels) (c.count-turn-end.result - (c.loop-turn._turn + 1)) (tree_of c.loop-turn.operand.tree) (tree_of c.in_ok-operand.operand.tree) c.loop-turn.cursor c.suffix.new.cursor
    (sym c.sees_suffix.ensures ∙ c.if-not-sees_suffix.false) (sym room ∙ c.if-not-fits.false) c.in_ok-operand.ensures
