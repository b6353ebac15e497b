use Rattle.std.proofs.Common.{◌≡◌, rules}
use Rattle.std.specs.Prelude.{None, Some}
use Rattle.std.specs.declared.cmp.Ordering.TheVariants.{Less, Equal, Greater}
use Rattle.fx_join.specs.Meet.{lower}
use Rattle.fx_join.proofs.Meet.{none_step, left_step, right_step, both_step, rise_rest}
use Rattle.fx_join.proofs.meeting.next_meeting.Goals as goal

pub returns-in-None-clause-met : goal.returns-in-None-clause-met
returns-in-None-clause-met c =
    let order : lower c.args.lefts.now.items c.args.rights.now.items ≡ None = search rules in
    none_step c.args.lefts.now.items c.args.rights.now.items order

pub returns-in-Some-Less-clause-met : goal.returns-in-Some-Less-clause-met
returns-in-Some-Less-clause-met c =
    let order : lower c.args.lefts.now.items c.args.rights.now.items ≡ Some Less = search rules in
    left_step c.args.lefts.now.items c.args.rights.now.items c.requires.lefts c.requires.rights
    c.take_first-left.result c.take_first-left.new.tables.items c.empty.result c.take_first-left.ensures c.empty.ensures order

pub returns-in-Some-Less-clause-lefts : goal.returns-in-Some-Less-clause-lefts
returns-in-Some-Less-clause-lefts c =
    rise_rest c.args.lefts.now.items c.take_first-left.result c.take_first-left.new.tables.items c.take_first-left.ensures c.requires.lefts

pub returns-in-Some-Greater-clause-met : goal.returns-in-Some-Greater-clause-met
returns-in-Some-Greater-clause-met c =
    let order : lower c.args.lefts.now.items c.args.rights.now.items ≡ Some Greater = search rules in
    right_step c.args.lefts.now.items c.args.rights.now.items c.requires.lefts c.requires.rights
    c.take_first-right.result c.take_first-right.new.tables.items c.empty-in-Some-Greater.result c.take_first-right.ensures c.empty-in-Some-Greater.ensures order

pub returns-in-Some-Greater-clause-rights : goal.returns-in-Some-Greater-clause-rights
returns-in-Some-Greater-clause-rights c =
    rise_rest c.args.rights.now.items c.take_first-right.result c.take_first-right.new.tables.items c.take_first-right.ensures c.requires.rights

pub returns-in-Some-Equal-clause-met : goal.returns-in-Some-Equal-clause-met
returns-in-Some-Equal-clause-met c =
    let order : lower c.args.lefts.now.items c.args.rights.now.items ≡ Some Equal = search rules in
    both_step c.args.lefts.now.items c.args.rights.now.items c.requires.lefts c.requires.rights
    c.take_first-left-in-Some-Equal.result c.take_first-right-in-Some-Equal.result
    c.take_first-left-in-Some-Equal.new.tables.items c.take_first-right-in-Some-Equal.new.tables.items
    c.take_first-left-in-Some-Equal.ensures c.take_first-right-in-Some-Equal.ensures order

pub returns-in-Some-Equal-clause-lefts : goal.returns-in-Some-Equal-clause-lefts
returns-in-Some-Equal-clause-lefts c =
    rise_rest c.args.lefts.now.items c.take_first-left-in-Some-Equal.result c.take_first-left-in-Some-Equal.new.tables.items c.take_first-left-in-Some-Equal.ensures c.requires.lefts

pub returns-in-Some-Equal-clause-rights : goal.returns-in-Some-Equal-clause-rights
returns-in-Some-Equal-clause-rights c =
    rise_rest c.args.rights.now.items c.take_first-right-in-Some-Equal.result c.take_first-right-in-Some-Equal.new.tables.items
    c.take_first-right-in-Some-Equal.ensures c.requires.rights
