use Rattle.std.proofs.Common.{◌≡◌, ◌-◌, [], length, map}
use Rattle.fx_ast.specs.Shape.{param}
use Rattle.fx_parse.specs.Gathering.{params_from}
use Rattle.fx_parse.specs.ReadExprs.{read_expr}
use Rattle.fx_parse.proofs.grammar.Grammar.params_found.Given as goal

abbrev pub invariant-loop-turn : goal.invariant-loop-turn
invariant-loop-turn g l = params_from (read_expr l.levels) (length l.fn.cursor) [] l.fn.cursor
    ≡ params_from (read_expr l.levels) (l._turn-end - l._turn) (map param l.params.items) l.cursor
