use Rattle.std.proofs.Common.{length, sym, subst}
use Rattle.fx_parse.specs.Cursor.{Gives}
use Rattle.fx_parse.specs.Grammar.{properties}
use Rattle.fx_parse.specs.ReadExprs.{read_expr}
use Rattle.fx_parse.specs.ReadProps.{read_props}
use Rattle.fx_parse.specs.Views.{props}
use Rattle.fx_parse.proofs.turns.SomeProps.{some_more}
use Rattle.fx_parse.proofs.grammar.Grammar.some_props.Goals as goal

pub returns : goal.returns
returns g c =
    subst (λ o. Gives props o c.others.result c.others.new.cursor)
    (sym (some_more properties c.args.levels (read_expr c.args.levels) (read_props properties c.args.levels (read_expr c.args.levels) (length c.args.cursor.now)) c.args.cursor.now
    c.push.new.self.items c.in_ok-first.first.label c.in_ok-first.first.value.tree c.in_ok-first.first.last c.labelled.new.cursor c.in_ok-first.ensures c.if-first.false
    (rw c.empty-found.ensures at c.in_ok-push.ensures)))
    (rw c.count-turns.ensures at c.others.ensures)
