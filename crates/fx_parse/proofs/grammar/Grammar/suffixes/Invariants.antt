use Rattle.std.proofs.Common.{◌≡◌, ◌-◌, length}
use Rattle.fx_ast.specs.Shape.{tree_of}
use Rattle.fx_parse.specs.ReadExprs.{read_expr}
use Rattle.fx_parse.specs.ReadRuns.{suffixes}
use Rattle.fx_parse.specs.Readings.{links}
use Rattle.fx_parse.proofs.grammar.Grammar.suffixes.Given as goal

abbrev pub invariant-loop-turn : goal.invariant-loop-turn
invariant-loop-turn g l = links (suffixes l.must_call l.begin l.self.depth l.levels (read_expr l.self.depth) (read_expr l.levels)) (length l.fn.cursor) (tree_of l.fn.operand.tree) l.fn.cursor
    ≡ links (suffixes l.must_call l.begin l.self.depth l.levels (read_expr l.self.depth) (read_expr l.levels)) (l._turn-end - l._turn) (tree_of l.operand.tree) l.cursor
