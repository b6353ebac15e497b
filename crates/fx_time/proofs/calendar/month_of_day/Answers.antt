use Rattle.std.proofs.Common.{◌≡◌, pos, ◌+ℤ◌, ◌-ℤ◌, ◌≤◌, ◌<◌, ◌+◌, FitsSigned, w64, to_z, of_z, unsigned_abs, arith}
use Rattle.std.proofs.lemmas.Int.{to_z-of_z}
use Rattle.jiff_core.proofs.SignedLemmas.{signed_arith, signed_casts, one_part}
use Rattle.fx_time.specs.March.{march_days}
use Rattle.fx_time.proofs.MonthLemmas.{first_day-march, march_low}
use Rattle.fx_time.proofs.calendar.month_of_day.Goals as goal

pub returns-clause-month : goal.returns-clause-month
returns-clause-month c =
    let days = c.args.day +ℤ pos 4_371_893 in
    let day : FitsSigned w64 c.args.day = c.ranges.day in
    let sum : FitsSigned w64 days = omega (arith, signed_arith, c.requires) in
    let n = c.march_month.result in
    let number : days ≡ pos (unsigned_abs days) = omega (arith, signed_arith, one_part days, c.requires) in
    let low : march_days n ≤ unsigned_abs days = simp to_z-of_z at c.march_month.ensures.from in
    let high : unsigned_abs days < march_days (n + 1) = simp to_z-of_z at c.march_month.ensures.to in
    let near = march_low n in
    let small : n ≤ 200_000 = omega (arith, signed_arith, c.requires) in
    let is : to_z w64 (of_z w64 (to_z w64 n -ℤ pos 143_638)) ≡ pos n -ℤ pos 143_638 = omega (arith, signed_casts) in
    let first = first_day-march (pos n -ℤ pos 143_638) n (omega (arith, signed_arith)) in
    let next = first_day-march ((pos n -ℤ pos 143_638) +ℤ pos 1) (n + 1) (omega (arith, signed_arith)) in
    rw is (omega (arith, signed_arith), omega (arith, signed_arith))
