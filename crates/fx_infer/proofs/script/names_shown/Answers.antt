use Rattle.std.proofs.Common.{sym, subst}
use Rattle.fx_ast.specs.Shape.{tree_of}
use Rattle.fx_infer.specs.Statements.{IsEnv, TellsTyped}
use Rattle.fx_infer.proofs.StatementLaws.{shown_led}
use Rattle.fx_infer.proofs.script.names_shown.Goals as goal

pub returns-then-typed : goal.returns-then-typed
returns-then-typed c env is =
    shown_led env c.args.names (tree_of c.args.value.now) is
    (subst (TellsTyped env (tree_of c.args.value.now)) c.if-typed.true (c.in_ok-typed.ensures env (subst (IsEnv env) (sym c.as_slice.ensures) is)))

pub returns : goal.returns
returns c env is = subst (TellsTyped env (tree_of c.args.value.now)) c.if-typed.false (c.in_ok-typed.ensures env (subst (IsEnv env) (sym c.as_slice.ensures) is))
