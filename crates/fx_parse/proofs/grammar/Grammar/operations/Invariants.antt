use Rattle.std.proofs.Common.{◌≡◌, ◌-◌, ◌++◌, map, None}
use Rattle.fx_ast.specs.Shape.{link}
use Rattle.fx_parse.specs.Operations.{operand_of, operation, operations}
use Rattle.fx_parse.specs.Readings.{links, mapped}
use Rattle.fx_parse.specs.ReadRuns.{operator_run}
use Rattle.fx_parse.proofs.grammar.Grammar.operations.Given as goal

abbrev pub invariant-loop-turn : goal.invariant-loop-turn
invariant-loop-turn g l = mapped (map operation) (operations l.self.depth l.line None l.fn.cursor)
    ≡ mapped (λ xs. map link l.found.items ++ xs) (mapped (map operation) (links (operator_run l.self.depth l.line (operand_of l.self.depth l.line)) (l._turn-end - l._turn) None l.cursor))
