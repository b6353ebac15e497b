use Rattle.std.proofs.Common.{◌∙◌, sym, subst}
use Rattle.fx_infer.specs.Statements.{IsEnv}
use Rattle.fx_infer.proofs.StatementLaws.{import_led, import_taken, import_unknown}
use Rattle.fx_infer.proofs.script.names_imported.Goals as goal

pub returns-then-is_taken : goal.returns-then-is_taken
returns-then-is_taken c env is =
    import_taken env c.import_name-label.result.now c.args.path.now c.args.alias.now c.import_name-label.ensures
    (sym (c.is_taken.ensures env (subst (IsEnv env) (sym c.as_slice.ensures) is)) ∙ c.if-is_taken.true)

pub returns-then-not-is_package : goal.returns-then-not-is_package
returns-then-not-is_package c env is = import_unknown env c.args.path.now c.args.alias.now (sym c.is_package.ensures ∙ c.if-not-is_package.true)

pub returns : goal.returns
returns c env is =
    import_led env c.args.names c.in_ok-more.more c.import_name-label.result c.args.path c.args.alias.now is c.in_ok-more.ensures c.import_name-label.ensures
    (sym (c.is_taken.ensures env (subst (IsEnv env) (sym c.as_slice.ensures) is)) ∙ c.if-is_taken.false) (sym c.is_package.ensures ∙ c.if-not-is_package.false)
