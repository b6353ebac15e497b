use Rattle.std.proofs.Common.{◌≡◌, FitsSigned, w64, arith}
use Rattle.std.proofs.lemmas.Int.{to_z-of_z}
use Rattle.jiff_core.proofs.SignedLemmas.{signed_arith}
use Rattle.fx_time.specs.Months.{first_day}
use Rattle.fx_time.proofs.MonthLemmas.{first_day-next, month_days_bounds}
use Rattle.fx_time.proofs.span.day_of_month.Goals as goal

first_is : (c : goal.After-first_day) → c.first_day.result ≡ first_day c.args.month
first_is c = let month : FitsSigned w64 c.args.month = c.ranges.month in simp to_z-of_z at c.first_day.ensures.value

pub overflow_sub-result : goal.overflow_sub-result
overflow_sub-result c =
    let is = first_is c in
    let next = first_day-next c.args.month in
    let most = month_days_bounds c.args.month in
    omega (arith, signed_arith, c.requires.holds, c.first_day.ensures.bound)

pub overflow_add-result : goal.overflow_add-result
overflow_add-result c =
    let is = first_is c in
    let next = first_day-next c.args.month in
    let most = month_days_bounds c.args.month in
    omega (arith, signed_arith, c.requires.holds, c.first_day.ensures.bound)

pub returns-clause-value : goal.returns-clause-value
returns-clause-value c =
    let is = first_is c in
    let next = first_day-next c.args.month in
    let most = month_days_bounds c.args.month in
    omega (arith, signed_arith, c.requires.holds, c.first_day.ensures.bound)

pub returns-clause-bound : goal.returns-clause-bound
returns-clause-bound c =
    let is = first_is c in
    let next = first_day-next c.args.month in
    let most = month_days_bounds c.args.month in
    (omega (arith, signed_arith, c.requires.holds, c.first_day.ensures.bound), omega (arith, signed_arith, c.requires.holds, c.first_day.ensures.bound))
