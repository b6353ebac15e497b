use Rattle.std.proofs.Common.{◌+ℤ◌, FitsSigned, w64, refl, arith}
use Rattle.std.specs.Int.{w128}
use Rattle.std.proofs.lemmas.Int.{to_z-of_z}
use Rattle.jiff_core.proofs.SignedLemmas.{signed_arith}
use Rattle.fx_time.proofs.TestLemmas.{year_in}
use Rattle.fx_time.proofs.span.month_later.Goals as goal

pub returns-clause-value : goal.returns-clause-value
returns-clause-value c =
    let later = c.args.month +ℤ c.args.months in
    let month : FitsSigned w64 c.args.month = c.ranges.month in
    let months : FitsSigned w64 c.args.months = c.ranges.months in
    let month128 : FitsSigned w128 c.args.month = omega (arith, signed_arith) in
    let months128 : FitsSigned w128 c.args.months = omega (arith, signed_arith) in
    let later128 : FitsSigned w128 later = omega (arith, signed_arith) in
    let low = simp to_z-of_z at c.if-later.false in
    let high = simp to_z-of_z at c.if-later-2.false in
    let later64 : FitsSigned w64 later = omega (arith, signed_arith) in
    rw (year_in later (omega (arith, signed_arith)) (omega (arith, signed_arith))) (simp to_z-of_z refl)
