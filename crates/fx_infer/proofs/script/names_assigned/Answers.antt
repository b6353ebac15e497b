use Rattle.std.proofs.Common.{◌∙◌, sym, subst}
use Rattle.fx_ast.specs.Shape.{tree_of}
use Rattle.fx_infer.specs.Statements.{IsEnv, TellsTyped}
use Rattle.fx_infer.proofs.StatementLaws.{assign_led, assign_taken}
use Rattle.fx_infer.proofs.script.names_assigned.Goals as goal

pub returns-then-is_taken : goal.returns-then-is_taken
returns-then-is_taken c env is =
    assign_taken env c.args.label.now (tree_of c.args.value.now) (sym (c.is_taken.ensures env (subst (IsEnv env) (sym c.as_slice-before.ensures) is)) ∙ c.if-is_taken.true)

pub returns-then-not-typed : goal.returns-then-not-typed
returns-then-not-typed c env is h =
    subst (TellsTyped env (tree_of c.args.value.now)) c.if-not-typed.true (c.in_ok-typed.ensures env (subst (IsEnv env) (sym c.as_slice-before.ensures) is)) h.1

pub returns : goal.returns
returns c env is =
    assign_led env c.args.names c.in_ok-more.more c.args.label c.args.value is c.in_ok-more.ensures
    (sym (c.is_taken.ensures env (subst (IsEnv env) (sym c.as_slice-before.ensures) is)) ∙ c.if-is_taken.false)
    (subst (TellsTyped env (tree_of c.args.value.now)) c.if-not-typed.false (c.in_ok-typed.ensures env (subst (IsEnv env) (sym c.as_slice-before.ensures) is)))
