use Rattle.std.proofs.Common.{◌∙◌, subst, sym}
use Rattle.std.specs.Option.{option_copied}
use Rattle.fx_infer.proofs.MemberArms.{Told}
use Rattle.fx_infer.proofs.MemberCallees.{no_package_value, no_builtin_value}
use Rattle.fx_infer.proofs.callee.callee_of_member.Goals as goal

pub returns-in-None : goal.returns-in-None
returns-in-None c place = no_package_value c.args.names.now c.args.of.now c.args.label.now place (subst (λ o. Told c.args.names.now c.args.of.now (option_copied o)) c.in-None.is c.package.ensures)

pub returns-in-None-builtin : goal.returns-in-None-builtin
returns-in-None-builtin c place =
    no_builtin_value c.args.names.now c.args.of.now c.args.label.now place c.in-Some.path.now (subst (λ o. Told c.args.names.now c.args.of.now (option_copied o)) c.in-Some.is c.package.ensures) (sym c.builtin.ensures ∙ c.in-None-builtin.is)
