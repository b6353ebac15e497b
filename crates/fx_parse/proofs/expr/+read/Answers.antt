use Rattle.std.proofs.Common.{◌≡◌, ◌-◌, suc, subst, arith}
use Rattle.fx_parse.specs.Cursor.{Gives}
use Rattle.fx_parse.specs.Nests.{tree_in}
use Rattle.fx_parse.specs.ReadExprs.{read_phrase}
use Rattle.fx_parse.proofs.turns.RunTurns.{phrase_none}
use Rattle.fx_parse.proofs.expr.+read.Goals as goal

pub returns-then-levels-eq0 : goal.returns-then-levels-eq0
returns-then-levels-eq0 t c = let none : c.args.levels ≡ 0 = omega arith in phrase_none c.args.levels c.args.phrase c.args.cursor.now none

pub returns : goal.returns
returns t c =
    let is : suc (c.args.levels - 1) ≡ c.args.levels = omega arith in
    subst (λ k. Gives tree_in (read_phrase k c.args.phrase c.args.cursor.now) c.top_phrase.result c.top_phrase.new.cursor) is c.top_phrase.ensures
