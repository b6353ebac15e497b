use Rattle.std.proofs.Common.{◌≡◌, pos, ◌+ℤ◌, FitsSigned, w64, unsigned_abs, arith}
use Rattle.std.proofs.lemmas.Int.{to_z-of_z}
use Rattle.jiff_core.proofs.SignedLemmas.{signed_arith, signed_casts, one_part}
use Rattle.fx_time.specs.March.{march_days}
use Rattle.fx_time.proofs.MonthLemmas.{first_day-march, march_high}
use Rattle.fx_time.proofs.calendar.first_day.Goals as goal

pub returns-clause-value : goal.returns-clause-value
returns-clause-value c =
    let months = c.args.month +ℤ pos 143_638 in
    let month : FitsSigned w64 c.args.month = c.ranges.month in
    let sum : FitsSigned w64 months = omega (arith, signed_arith, c.requires) in
    let n = unsigned_abs months in
    let is : c.march_days.result ≡ march_days n = simp to_z-of_z at c.march_days.ensures in
    let number : months ≡ pos n = omega (arith, signed_arith, one_part months, c.requires) in
    let closed = first_day-march c.args.month n number in
    let high = march_high n in
    omega (arith, signed_casts, c.requires)
