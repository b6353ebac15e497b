use Rattle.std.proofs.Common.{◌≡◌, take, map}
use Rattle.fx_ast.specs.Bare.{bare_form}
use Rattle.fx_ast.specs.Shape.{statement_form}
use Rattle.fx_ast.proofs.same.same_statements.Given as goal

abbrev pub invariant-loop-i : goal.invariant-loop-i
invariant-loop-i l = map (λ s. bare_form (statement_form s.form)) (take l.i l.left) ≡ map (λ s. bare_form (statement_form s.form)) (take l.i l.right)
