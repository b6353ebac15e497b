use Rattle.std.proofs.Common.{◌≡◌, ◌-ℤ◌, sym, subst, rules}
use Rattle.std.specs.Prelude.{None, Some}
use Rattle.fx_value.specs.Calls.{Told}
use Rattle.fx_agg.specs.Numbers.{integers, whole}
use Rattle.fx_agg.proofs.Tallies.{spread_is}
use Rattle.fx_agg.proofs.numbers.spread.Goals as goal

pub returns-in-None : goal.returns-in-None
returns-in-None c = spread_is (integers c.args.column.now c.args.rows.now) None c.in-None.ensures c.args.place

pub returns-in-Some : goal.returns-in-Some
returns-in-Some c =
    let told : Told (whole c.args.place c.gap.result) c.whole.result = search rules in
    let gap : c.gap.result ≡ c.in-Some.tally.greatest -ℤ c.in-Some.tally.least = search rules in
    subst (λ e. Told e c.whole.result) (sym (spread_is (integers c.args.column.now c.args.rows.now) (Some c.in-Some.tally) c.in-Some.ensures c.args.place))
    (subst (λ n. Told (whole c.args.place n) c.whole.result) gap told)
