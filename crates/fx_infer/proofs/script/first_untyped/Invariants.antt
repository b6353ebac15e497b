use Rattle.std.proofs.Common.{◌≡◌, [], map, take}
use Rattle.fx_ast.specs.Shape.{statement_tree}
use Rattle.fx_infer.specs.Script.{after_all, HasTyping}
use Rattle.fx_infer.specs.Statements.{IsEnv}
use Rattle.fx_infer.proofs.script.first_untyped.Given as goal

abbrev pub invariant-loop-statement : goal.invariant-loop-statement
invariant-loop-statement l =
    (l.number ≡ l.statement-index) × IsEnv (after_all (take l.statement-index (map statement_tree l.statements)) []) l.names
    × HasTyping (take l.statement-index (map statement_tree l.statements))
