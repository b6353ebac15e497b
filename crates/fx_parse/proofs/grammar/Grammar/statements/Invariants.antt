use Rattle.std.proofs.Common.{◌≡◌, ◌-◌, false, length}
use Rattle.fx_parse.specs.Opening.{statements_after}
use Rattle.fx_parse.specs.ReadExprs.{read_expr}
use Rattle.fx_parse.proofs.grammar.Grammar.statements.Given as goal

abbrev pub invariant-loop-turn : goal.invariant-loop-turn
invariant-loop-turn g l = statements_after (read_expr l.levels) (length l.fn.cursor) false l.fn.before l.fn.cursor
    ≡ statements_after (read_expr l.levels) (l._turn-end - l._turn) l.follows l.found l.cursor
