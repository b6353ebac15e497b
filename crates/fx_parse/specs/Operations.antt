-- What the parser's loops over operators and the operands after them do. The contract of parsing cites none of the readings.
use Rattle.std.specs.Prelude.{ℕ, ◌==◌, cond, List, length, Option}
use Rattle.fx_ast.specs.Shape.{OfLink, tree_of}
use Rattle.fx_ast.specs.Tree.{Tree}
use Rattle.fx_parse.specs.declared.chains.Operation.{Operation}
use Rattle.fx_parse.specs.Grammar.{Link}
use Rattle.fx_parse.specs.Items.{Items, infix_of}
use Rattle.fx_parse.specs.Readings.{Out, links}
use Rattle.fx_parse.specs.ReadExprs.{read_called, read_level}
use Rattle.fx_parse.specs.ReadRuns.{operator_run}

-- an operator with the operand after it, as a part of a chain
abbrev pub operation : Link → OfLink
operation l = record { place = l.mark.place; op = infix_of l.mark.lexeme; right = l.right }

abbrev pub operation_view : Operation → OfLink
operation_view o = record { place = o.place; op = o.op; right = tree_of o.right.tree }

-- what stands after a `|>`, as a part of a pipe
abbrev pub call_of : Link → Tree
call_of l = l.right

-- the operand after an operator between operands of the line m
abbrev pub operand_of : ℕ → ℕ → Items → Out Tree
operand_of k m = cond (m == 1) (read_called k) (read_level k m)

-- operators of the line above m with their operands, after the first operand where there is one
abbrev pub operations : ℕ → ℕ → Option Tree → Items → Out (List Link)
operations k m s w = links (operator_run k m (operand_of k m)) (length w) s w
