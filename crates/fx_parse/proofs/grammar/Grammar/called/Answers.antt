use Rattle.std.proofs.Common.{◌≡◌, ◌-◌, suc, sym, subst, arith}
use Rattle.fx_parse.specs.Cursor.{Gives}
use Rattle.fx_parse.specs.Nests.{tree_in}
use Rattle.fx_parse.proofs.turns.RunTurns.{called_none, called_some}
use Rattle.fx_parse.proofs.grammar.Grammar.called.Goals as goal

pub returns-then-self-eq0 : goal.returns-then-self-eq0
returns-then-self-eq0 g c = let none : c.args.self.now.depth ≡ 0 = omega arith in called_none c.args.self.now.depth c.args.cursor.now none

pub returns : goal.returns
returns g c =
    let is : c.args.self.now.depth ≡ suc (c.args.self.now.depth - 1) = omega arith in
    subst (λ o. Gives tree_in o c.postfix.result c.postfix.new.cursor)
    (sym (called_some c.args.self.now.depth (c.args.self.now.depth - 1) c.args.cursor.now is)) c.postfix.ensures
