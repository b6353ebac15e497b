use Rattle.std.proofs.Common.{◌≡◌, ◌-◌, [], length, map}
use Rattle.fx_ast.specs.Shape.{prop}
use Rattle.fx_parse.specs.Gathering.{block_from}
use Rattle.fx_parse.specs.ReadExprs.{read_expr}
use Rattle.fx_parse.proofs.grammar.Grammar.block_found.Given as goal

abbrev pub invariant-loop-turn : goal.invariant-loop-turn
invariant-loop-turn g l = block_from (read_expr l.levels) (length l.fn.cursor) [] l.fn.cursor
    ≡ block_from (read_expr l.levels) (l._turn-end - l._turn) (map prop l.lets.items) l.cursor
