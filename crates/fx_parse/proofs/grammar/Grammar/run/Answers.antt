use Rattle.std.proofs.Common.{◌≡◌, ◌==◌, false, sym, ◌∙◌, subst, rules, arith}
use Rattle.std.proofs.lemmas.Grind.{common_steps}
use Rattle.fx_ast.specs.Shape.{tree_of}
use Rattle.fx_parse.specs.Cursor.{Gives}
use Rattle.fx_parse.specs.Nests.{tree_in}
use Rattle.fx_parse.specs.Operations.{operand_of}
use Rattle.fx_parse.proofs.turns.RunTurns.{pipe_begun, chain_begun}
use Rattle.fx_parse.proofs.grammar.Grammar.run.Goals as goal

pub returns-then-line-eq1 : goal.returns-then-line-eq1
returns-then-line-eq1 g c =
    let one : c.args.line ≡ 1 = first_of (omega arith, search rules, grind (arith, common_steps)) in
    subst (λ o. Gives tree_in o c.pipe.result c.pipe.new.cursor)
    (sym (pipe_begun c.args.self.now.depth c.args.line (operand_of c.args.self.now.depth) c.args.begin (tree_of c.args.operand.tree) c.args.cursor.now one
    (sym c.sees_operator.ensures ∙ c.if-not-sees_operator.false) (sym c.has_room.ensures ∙ c.if-not-has_room.false)))
    c.pipe.ensures

pub returns : goal.returns
returns g c =
    let other : (c.args.line == 1) ≡ false = first_of (search rules, grind (arith, common_steps)) in
    subst (λ o. Gives tree_in o c.chain.result c.chain.new.cursor)
    (sym (chain_begun c.args.self.now.depth c.args.line (operand_of c.args.self.now.depth) c.args.begin (tree_of c.args.operand.tree) c.args.cursor.now other
    (sym c.sees_operator.ensures ∙ c.if-not-sees_operator.false) (sym c.has_room.ensures ∙ c.if-not-has_room.false)))
    c.chain.ensures
