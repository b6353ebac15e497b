use Rattle.std.proofs.Common.{◌≡◌, ◌-◌, length}
use Rattle.fx_ast.specs.Lists.{trees_before}
use Rattle.fx_parse.specs.ReadExprs.{read_expr}
use Rattle.fx_parse.specs.ReadPrimary.{read_elements}
use Rattle.fx_parse.specs.Readings.{mapped}
use Rattle.fx_parse.proofs.grammar.Grammar.elements.Given as goal

abbrev pub invariant-loop-turn : goal.invariant-loop-turn
invariant-loop-turn g l = read_elements l.levels (read_expr l.levels) (length l.fn.cursor) l.fn.cursor
    ≡ mapped (trees_before l.found.items) (read_elements l.levels (read_expr l.levels) (l._turn-end - l._turn) l.cursor)
