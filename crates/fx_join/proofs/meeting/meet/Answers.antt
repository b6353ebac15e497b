use Rattle.std.proofs.Common.{◌≡◌, sym, subst, rules}
use Rattle.std.specs.List.{AllByRecursion}
use Rattle.fx_data.specs.Table.{HasRisingLabels}
use Rattle.fx_join.specs.Meet.{meetings}
use Rattle.fx_join.specs.declared.meeting.Meeting.{Meeting}
use Rattle.fx_join.proofs.Meet.{meetings_rise}
use Rattle.fx_join.proofs.meeting.meet.Goals as goal

pub returns-clause-rising : goal.returns-clause-rising
returns-clause-rising c =
    let all : c.of.result ≡ meetings c.args.lefts c.args.rights = search rules in
    subst (AllByRecursion (λ (m : Meeting). HasRisingLabels m.key)) (sym all) (meetings_rise c.args.lefts c.args.rights c.into_list.ensures.lawful.each c.into_list-2.ensures.lawful.each)
