use Rattle.std.proofs.Common.{pos, FitsSigned, w64, arith}
use Rattle.std.specs.Int.{w128, int_div_euclid}
use Rattle.std.proofs.lemmas.Int.{to_z-of_z}
use Rattle.jiff_core.proofs.SignedLemmas.{signed_arith}
use Rattle.fx_time.specs.Calendar.{nanos_of_day}
use Rattle.fx_time.specs.Windows.{month_at}
use Rattle.fx_time.proofs.MonthLemmas.{month_near, one_month}
use Rattle.fx_time.proofs.WindowLemmas.{starts_after}
use Rattle.fx_time.proofs.window.month_at.Goals as goal

pub returns-clause-last : goal.returns-clause-last
returns-clause-last c k =
    let t : FitsSigned w128 c.args.t = c.ranges.t in
    let value = simp to_z-of_z at c.quotient.ensures.value in
    let wide : FitsSigned w128 c.quotient.result = omega (arith, signed_arith, c.quotient.ensures.bound) in
    let day : FitsSigned w64 c.quotient.result = omega (arith, signed_arith, value, c.requires) in
    let month : FitsSigned w64 c.month_of_day.result = omega (arith, signed_arith, c.month_of_day.ensures.bound) in
    let holds = rw value at (simp to_z-of_z at c.month_of_day.ensures.month) in
    simp to_z-of_z (starts_after c.args.t c.month_of_day.result k holds)

pub returns-clause-value : goal.returns-clause-value
returns-clause-value c =
    let t : FitsSigned w128 c.args.t = c.ranges.t in
    let value = simp to_z-of_z at c.quotient.ensures.value in
    let wide : FitsSigned w128 c.quotient.result = omega (arith, signed_arith, c.quotient.ensures.bound) in
    let day : FitsSigned w64 c.quotient.result = omega (arith, signed_arith, value, c.requires) in
    let month : FitsSigned w64 c.month_of_day.result = omega (arith, signed_arith, c.month_of_day.ensures.bound) in
    let holds = rw value at (simp to_z-of_z at c.month_of_day.ensures.month) in
    simp to_z-of_z (one_month (int_div_euclid c.args.t (pos nanos_of_day)) c.month_of_day.result (month_at c.args.t) holds (month_near c.args.t c.requires))
