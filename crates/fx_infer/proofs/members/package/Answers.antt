use Rattle.std.proofs.Common.{subst}
use Rattle.fx_infer.specs.Names.{IsNewest}
use Rattle.fx_infer.proofs.MemberArms.{told_nameless, told_free, told_bound, told_package}
use Rattle.fx_infer.proofs.NameArms.{found_place}
use Rattle.fx_infer.proofs.members.package.Goals as goal

pub returns-in_default : goal.returns-in_default
returns-in_default c = told_nameless c.args.names.now c.args.of.now c.get.result.now c.get.ensures c.in_default.not-Name

pub returns-in-None : goal.returns-in-None
returns-in-None c = told_free c.args.names.now c.args.of.now c.get.result.now c.in-Name.label c.get.ensures c.in-Name.is (subst (IsNewest c.in-Name.label c.args.names.now) c.in-None.is c.newest.ensures)

pub returns-in-Imported : goal.returns-in-Imported
returns-in-Imported c =
    let there = found_place c.in-Name.label c.args.names.now c.newest.result c.in-Some.place c.in-Some.is c.newest.ensures in
    told_package c.args.names.now c.args.of.now c.get.result.now c.in-Name.label c.get.ensures c.in-Name.is c.in-Some.place c.index-names-place.result there.0 c.index-names-place.is
    (there.1 c.index-names-place.result c.index-names-place.is) there.2 c.in-Imported.path c.in-Imported.is

pub returns-in_default-bound : goal.returns-in_default-bound
returns-in_default-bound c =
    let there = found_place c.in-Name.label c.args.names.now c.newest.result c.in-Some.place c.in-Some.is c.newest.ensures in
    told_bound c.args.names.now c.args.of.now c.get.result.now c.in-Name.label c.get.ensures c.in-Name.is c.in-Some.place c.index-names-place.result there.0 c.index-names-place.is
    (there.1 c.index-names-place.result c.index-names-place.is) there.2 c.in_default-bound.not-Imported
