use Rattle.std.proofs.Common.{◌≡◌, ◌-◌, length}
use Rattle.fx_parse.specs.Opening.{imports_after}
use Rattle.fx_parse.specs.ReadExprs.{read_expr}
use Rattle.fx_parse.proofs.grammar.Grammar.imports.Given as goal

abbrev pub invariant-loop-turn : goal.invariant-loop-turn
invariant-loop-turn g l = imports_after (read_expr l.levels) (length l.fn.cursor) l.fn.before l.fn.cursor
    ≡ imports_after (read_expr l.levels) (l._turn-end - l._turn) l.found l.cursor
