use Rattle.std.proofs.Common.{◌≡◌, pos, ◌+ℤ◌, FitsSigned, w64, arith}
use Rattle.std.proofs.lemmas.Int.{to_z-of_z}
use Rattle.jiff_core.proofs.SignedLemmas.{signed_arith, one_part}
use Rattle.fx_time.specs.Months.{first_day}
use Rattle.fx_time.proofs.MonthLemmas.{first_day-next, month_days_bounds}
use Rattle.fx_time.proofs.span.day_in.Goals as goal

pub returns-then-wanted-next-clause-value : goal.returns-then-wanted-next-clause-value
returns-then-wanted-next-clause-value c =
    let month : FitsSigned w64 c.args.month = c.ranges.month in
    let day : FitsSigned w64 c.args.day = c.ranges.day in
    let after : FitsSigned w64 (c.args.month +ℤ pos 1) = omega (arith, signed_arith, c.requires.month) in
    let first : c.first_day.result ≡ first_day c.args.month = simp to_z-of_z at c.first_day.ensures.value in
    let next : c.first_day-next.result ≡ first_day (c.args.month +ℤ pos 1) = simp to_z-of_z at c.first_day-next.ensures.value in
    let length = first_day-next c.args.month in
    let test = c.if-wanted-next.true in
    omega (arith, signed_arith, one_part c.args.day, c.requires.day, c.first_day.ensures.bound, c.first_day-next.ensures.bound)

-- the last day comes before the wanted one
else_bounds : (c : goal.Else-wanted-next) → (c.first_day.result ≡ first_day c.args.month) × (c.first_day-next.result ≡ first_day (c.args.month +ℤ pos 1))
else_bounds c =
    let month : FitsSigned w64 c.args.month = c.ranges.month in
    let after : FitsSigned w64 (c.args.month +ℤ pos 1) = omega (arith, signed_arith, c.requires.month) in
    (simp to_z-of_z at c.first_day.ensures.value, simp to_z-of_z at c.first_day-next.ensures.value)

pub returns-else-wanted-next-clause-value : goal.returns-else-wanted-next-clause-value
returns-else-wanted-next-clause-value c =
    let day : FitsSigned w64 c.args.day = c.ranges.day in
    let is = else_bounds c in
    let length = first_day-next c.args.month in
    let test = c.if-wanted-next.false in
    omega (arith, signed_arith, one_part c.args.day, c.requires.day, c.first_day.ensures.bound, c.first_day-next.ensures.bound)

pub returns-else-wanted-next-clause-bound : goal.returns-else-wanted-next-clause-bound
returns-else-wanted-next-clause-bound c =
    let is = else_bounds c in
    let length = first_day-next c.args.month in
    let some = month_days_bounds c.args.month in
    (omega (arith, signed_arith, c.first_day.ensures.bound, c.first_day-next.ensures.bound), omega (arith, signed_arith, c.first_day-next.ensures.bound))
