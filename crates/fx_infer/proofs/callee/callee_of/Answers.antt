use Rattle.std.proofs.Common.{◌∙◌, sym}
use Rattle.fx_infer.proofs.CalleeLaws.{name_callee, literal_callee, value_callee}
use Rattle.fx_infer.proofs.MemberCallees.{member_callee}
use Rattle.fx_infer.proofs.callee.callee_of.Goals as goal

pub returns-in_ok-callee_of_name-in-Name : goal.returns-in_ok-callee_of_name-in-Name
returns-in_ok-callee_of_name-in-Name c =
    name_callee c.args.names.now c.args.expr.now c.get.result.now c.in-Name.label c.in_ok-callee_of_name-in-Name.field-0 c.get.ensures c.in-Name.is c.in_ok-callee_of_name-in-Name.ensures

pub returns-then-is_literal : goal.returns-then-is_literal
returns-then-is_literal c = literal_callee c.args.names.now c.args.expr.now c.get.result.now c.get.ensures c.in_default.not-Name c.in_default.not-Member

pub returns-else-is_literal : goal.returns-else-is_literal
returns-else-is_literal c =
    value_callee c.args.names.now c.args.expr.now c.get.result.now c.get.ensures c.in_default.not-Name c.in_default.not-Member (sym c.is_literal.ensures ∙ c.if-is_literal.false)

pub returns-in-Member : goal.returns-in-Member
returns-in-Member c =
    member_callee c.args.names.now c.args.expr.now c.get.result.now c.in-Member.of c.in-Member.label c.get.ensures c.in-Member.is c.callee_of_member.result (c.callee_of_member.ensures c.args.expr.now.place)
