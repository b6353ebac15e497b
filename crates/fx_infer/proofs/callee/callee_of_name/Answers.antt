use Rattle.std.proofs.Common.{◌∙◌, sym, subst}
use Rattle.fx_infer.specs.Names.{IsNewest}
use Rattle.fx_infer.proofs.CalleeLaws.{param_called, package_called, value_called, literal_called}
use Rattle.fx_infer.proofs.NameArms.{found_place}
use Rattle.fx_infer.proofs.callee.callee_of_name.Goals as goal

pub callee_unbound-requires : goal.callee_unbound-requires
callee_unbound-requires c = subst (IsNewest c.args.label.now c.args.names.now) c.in-None.is c.newest.ensures

pub returns-in-Param : goal.returns-in-Param
returns-in-Param c =
    param_called c.args.names.now c.args.label.now c.in-Some.place c.index-names-place.result (found_place c.args.label.now c.args.names.now c.newest.result c.in-Some.place c.in-Some.is c.newest.ensures).0 c.index-names-place.is ((found_place c.args.label.now c.args.names.now c.newest.result c.in-Some.place c.in-Some.is c.newest.ensures).1 c.index-names-place.result c.index-names-place.is) (found_place c.args.label.now c.args.names.now c.newest.result c.in-Some.place c.in-Some.is c.newest.ensures).2
    c.in-Param.field-0 c.in-Param.is

pub returns-in-Imported : goal.returns-in-Imported
returns-in-Imported c =
    package_called c.args.names.now c.args.label.now c.in-Some.place c.index-names-place.result (found_place c.args.label.now c.args.names.now c.newest.result c.in-Some.place c.in-Some.is c.newest.ensures).0 c.index-names-place.is ((found_place c.args.label.now c.args.names.now c.newest.result c.in-Some.place c.in-Some.is c.newest.ensures).1 c.index-names-place.result c.index-names-place.is) (found_place c.args.label.now c.args.names.now c.newest.result c.in-Some.place c.in-Some.is c.newest.ensures).2
    c.in-Imported.field-0 c.in-Imported.is

pub returns-then-is_literal : goal.returns-then-is_literal
returns-then-is_literal c =
    literal_called c.args.names.now c.args.label.now c.in-Some.place c.index-names-place.result (found_place c.args.label.now c.args.names.now c.newest.result c.in-Some.place c.in-Some.is c.newest.ensures).0 c.index-names-place.is ((found_place c.args.label.now c.args.names.now c.newest.result c.in-Some.place c.in-Some.is c.newest.ensures).1 c.index-names-place.result c.index-names-place.is) (found_place c.args.label.now c.args.names.now c.newest.result c.in-Some.place c.in-Some.is c.newest.ensures).2
    c.in-Assigned.value c.in-Assigned.is

pub returns-else-is_literal : goal.returns-else-is_literal
returns-else-is_literal c =
    value_called c.args.names.now c.args.label.now c.in-Some.place c.index-names-place.result (found_place c.args.label.now c.args.names.now c.newest.result c.in-Some.place c.in-Some.is c.newest.ensures).0 c.index-names-place.is ((found_place c.args.label.now c.args.names.now c.newest.result c.in-Some.place c.in-Some.is c.newest.ensures).1 c.index-names-place.result c.index-names-place.is) (found_place c.args.label.now c.args.names.now c.newest.result c.in-Some.place c.in-Some.is c.newest.ensures).2
    c.in-Assigned.value c.in-Assigned.is (sym c.is_literal.ensures ∙ c.if-is_literal.false)
