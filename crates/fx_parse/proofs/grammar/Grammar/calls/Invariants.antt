use Rattle.std.proofs.Common.{◌≡◌, ◌-◌, ◌++◌, map, None}
use Rattle.fx_ast.specs.Shape.{tree_of}
use Rattle.fx_parse.specs.Operations.{operand_of, call_of, operations}
use Rattle.fx_parse.specs.Readings.{links, mapped}
use Rattle.fx_parse.specs.ReadRuns.{operator_run}
use Rattle.fx_parse.proofs.grammar.Grammar.calls.Given as goal

abbrev pub invariant-loop-turn : goal.invariant-loop-turn
invariant-loop-turn g l = mapped (map call_of) (operations l.self.depth 1 None l.fn.cursor)
    ≡ mapped (λ xs. map tree_of l.found.items ++ xs) (mapped (map call_of) (links (operator_run l.self.depth 1 (operand_of l.self.depth 1)) (l._turn-end - l._turn) None l.cursor))
