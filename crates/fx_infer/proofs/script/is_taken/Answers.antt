use Rattle.std.proofs.Common.{sym, subst}
use Rattle.fx_infer.specs.Names.{IsNewest}
use Rattle.fx_infer.proofs.StatementLaws.{taken, not_taken}
use Rattle.fx_infer.proofs.script.is_taken.Goals as goal

pub returns-in-Some : goal.returns-in-Some
returns-in-Some c env is = sym (taken env c.args.names.now c.args.label.now c.in-Some.field-0 is (subst (IsNewest c.args.label.now c.args.names.now) c.in-Some.is c.newest.ensures))

pub returns-in-None : goal.returns-in-None
returns-in-None c env is = sym (not_taken env c.args.names.now c.args.label.now is (subst (IsNewest c.args.label.now c.args.names.now) c.in-None.is c.newest.ensures))
