use Rattle.std.proofs.Common.{sym, subst, rules}
use Rattle.std.specs.Prelude.{None, Some}
use Rattle.fx_value.specs.Calls.{Told}
use Rattle.fx_agg.specs.Numbers.{integers, whole}
use Rattle.fx_agg.proofs.Tallies.{sum_is}
use Rattle.fx_agg.proofs.numbers.sum.Goals as goal

pub returns-in-None : goal.returns-in-None
returns-in-None c = sum_is (integers c.args.column.now c.args.rows.now) None c.in-None.ensures c.args.place

pub returns-in-Some : goal.returns-in-Some
returns-in-Some c =
    let told : Told (whole c.args.place c.in-Some.tally.sum) c.whole.result = search rules in
    subst (λ e. Told e c.whole.result) (sym (sum_is (integers c.args.column.now c.args.rows.now) (Some c.in-Some.tally) c.in-Some.ensures c.args.place)) told
