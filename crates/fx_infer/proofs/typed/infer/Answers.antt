use Rattle.std.proofs.Common.{refl, subst, map, None}
use Rattle.fx_ast.specs.Shape.{statement_tree}
use Rattle.fx_infer.specs.Statements.{FirstUntyped}
use Rattle.fx_infer.proofs.typed.infer.Goals as goal

pub returns-in-None-clause-ok : goal.returns-in-None-clause-ok
returns-in-None-clause-ok c = (
  subst (λ ss. FirstUntyped (map statement_tree ss) None) c.as_slice.ensures
      (subst (FirstUntyped (map statement_tree c.as_slice.result.now)) c.in-None.is c.in_ok-statement.ensures),
  refl,
)
