use Rattle.std.proofs.Common.{◌≡◌, ◌-◌, suc, Err, refl, sym, ◌∙◌, subst, rules, arith}
use Rattle.fx_ast.specs.Shape.{tree_of}
use Rattle.fx_parse.specs.Cursor.{Gives}
use Rattle.fx_parse.specs.Nests.{tree_in}
use Rattle.fx_parse.specs.Readings.{Got, Bad}
use Rattle.fx_parse.proofs.turns.GatherLaws.{fails_as}
use Rattle.fx_parse.proofs.turns.RunTurns.{level_postfix, level_sign, level_run}
use Rattle.fx_parse.proofs.grammar.Grammar.+line.Goals as goal

pub returns-then-line-eq0 : goal.returns-then-line-eq0
returns-then-line-eq0 g t c =
    let none : c.args.line ≡ 0 = omega arith in
    subst (λ o. Gives tree_in o c.postfix.result c.postfix.new.cursor) (sym (level_postfix c.args.self.now.depth c.args.line c.args.cursor.now none)) c.postfix.ensures

pub returns-then-sees_prefix : goal.returns-then-sees_prefix
returns-then-sees_prefix g t c =
    let is : c.args.line ≡ suc (c.args.line - 1) = omega arith in
    subst (λ o. Gives tree_in o c.prefixed.result c.prefixed.new.cursor)
    (sym (level_sign c.args.self.now.depth c.args.line (c.args.line - 1) c.args.cursor.now is (sym c.sees_prefix.ensures ∙ c.if-sees_prefix.true)))
    c.prefixed.ensures

pub returns-in_err-operand : goal.returns-in_err-operand
returns-in_err-operand g t c =
    let is : c.args.line ≡ suc (c.args.line - 1) = omega arith in
    let same : c.from_residual.result ≡ Err c.in_err-operand.field-0.0 = search rules in
    rw same (fails_as tree_in tree_in _ _ _ c.in_err-operand.field-0.0 c.line.new.cursor refl
    (λ deep r bad. level_run c.args.self.now.depth c.args.line (c.args.line - 1) c.args.cursor.now (Bad deep r) is (sym c.sees_prefix.ensures ∙ c.if-sees_prefix.false) bad)
    c.in_err-operand.ensures)

pub returns : goal.returns
returns g t c =
    let is : c.args.line ≡ suc (c.args.line - 1) = omega arith in
    let read = Got (tree_of c.in_ok-operand.operand.tree) c.line.new.cursor in
    subst (λ o. Gives tree_in o c.run.result c.run.new.cursor)
    (sym (level_run c.args.self.now.depth c.args.line (c.args.line - 1) c.args.cursor.now read is (sym c.sees_prefix.ensures ∙ c.if-sees_prefix.false) c.in_ok-operand.ensures))
    (rw c.place-begin.ensures at c.run.ensures)
