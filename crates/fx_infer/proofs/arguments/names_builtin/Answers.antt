use Rattle.std.proofs.Common.{subst, sym}
use Rattle.fx_infer.specs.Environment.{scope}
use Rattle.fx_infer.specs.Names.{env_under}
use Rattle.fx_infer.proofs.CalleeLaws.{name_in_force, in_force_native, no_force_literal, no_force_value}
use Rattle.fx_infer.proofs.WrittenLaws.{no_name_force}
use Rattle.fx_infer.proofs.arguments.names_builtin.Goals as goal

pub returns-in_default : goal.returns-in_default
returns-in_default c s = no_name_force c.args.value.now c.get.result.now (scope (env_under s c.args.names.now)) c.get.ensures c.in_default.not-Name

pub returns-in-Native : goal.returns-in-Native
returns-in-Native c s =
    subst (λ P. P) (name_in_force c.args.names.now c.args.value.now c.get.result.now c.in-Name.label c.get.ensures c.in-Name.is s)
    (in_force_native c.args.names.now c.in-Name.label c.in_ok-callee_of_name-in-Name.field-0 c.in-Native.field-0 c.in-Native.is c.in_ok-callee_of_name-in-Name.ensures s)

pub returns-in-Literal : goal.returns-in-Literal
returns-in-Literal c s k =
    no_force_literal c.args.names.now c.in-Name.label c.in_ok-callee_of_name-in-Name.field-0 c.in-Literal.is c.in_ok-callee_of_name-in-Name.ensures s
    (subst (λ P. P) (sym (name_in_force c.args.names.now c.args.value.now c.get.result.now c.in-Name.label c.get.ensures c.in-Name.is s)) k)

pub returns-in-Value : goal.returns-in-Value
returns-in-Value c s k =
    no_force_value c.args.names.now c.in-Name.label c.in_ok-callee_of_name-in-Name.field-0 c.in-Value.is c.in_ok-callee_of_name-in-Name.ensures s
    (subst (λ P. P) (sym (name_in_force c.args.names.now c.args.value.now c.get.result.now c.in-Name.label c.get.ensures c.in-Name.is s)) k)
