use Rattle.std.proofs.Common.{◌≡◌, pos, FitsSigned, w64, unsigned_abs, ap, ◌∙◌, arith, rules}
use Rattle.std.specs.Int.{w128, int_div_euclid}
use Rattle.std.proofs.lemmas.Int.{to_z-of_z}
use Rattle.jiff_core.proofs.SignedLemmas.{signed_arith, one_part}
use Rattle.fx_time.proofs.WindowLemmas.{started_months, started_nanos, some_nanos}
use Rattle.fx_time.proofs.window.last_started.Goals as goal

pub returns-then-every-gt0-clause-last : goal.returns-then-every-gt0-clause-last
returns-then-every-gt0-clause-last c k =
    let every = c.args.every in
    let months : FitsSigned w64 every.months = search rules in
    let t : FitsSigned w128 c.args.t = c.ranges.t in
    let month64 : FitsSigned w64 c.month_at.result = omega (arith, signed_arith, c.month_at.ensures.bound) in
    let month : FitsSigned w128 c.month_at.result = omega (arith, signed_arith, c.month_at.ensures.bound) in
    let wide : FitsSigned w128 c.quotient.result = omega (arith, signed_arith, c.quotient.ensures.bound) in
    let has = simp to_z-of_z at c.if-every-gt0.true in
    let after = simp to_z-of_z at c.month_at.ensures.last in
    let value = simp to_z-of_z at c.quotient.ensures.value in
    let e : every.months ≡ pos (unsigned_abs every.months) = omega (arith, signed_arith, one_part every.months, has) in
    simp to_z-of_z (rw value (started_months every (unsigned_abs every.months) (omega (arith, signed_arith, has)) c.args.t c.month_at.result k has e after))

pub returns-else-every-gt0-clause-last : goal.returns-else-every-gt0-clause-last
returns-else-every-gt0-clause-last c k =
    let every = c.args.every in
    let months : FitsSigned w64 every.months = search rules in
    let nanos : FitsSigned w64 every.nanos = search rules in
    let t : FitsSigned w128 c.args.t = c.ranges.t in
    let wide : FitsSigned w128 c.quotient-else-every-gt0.result = omega (arith, signed_arith, c.quotient-else-every-gt0.ensures.bound) in
    let has = simp to_z-of_z at c.if-every-gt0.false in
    let value = simp to_z-of_z at c.quotient-else-every-gt0.ensures.value in
    let some = some_nanos every c.requires.window has in
    let e : every.nanos ≡ pos (unsigned_abs every.nanos) = omega (arith, signed_arith, one_part every.nanos) in
    simp to_z-of_z (rw value (started_nanos every (unsigned_abs every.nanos) (omega (arith, signed_arith)) c.args.t k has e))

pub returns-then-every-gt0-clause-value : goal.returns-then-every-gt0-clause-value
returns-then-every-gt0-clause-value c =
    let every = c.args.every in
    let months : FitsSigned w64 every.months = search rules in
    let t : FitsSigned w128 c.args.t = c.ranges.t in
    let month64 : FitsSigned w64 c.month_at.result = omega (arith, signed_arith, c.month_at.ensures.bound) in
    let month : FitsSigned w128 c.month_at.result = omega (arith, signed_arith, c.month_at.ensures.bound) in
    let wide : FitsSigned w128 c.quotient.result = omega (arith, signed_arith, c.quotient.ensures.bound) in
    let has = simp to_z-of_z at c.if-every-gt0.true in
    let month_is = simp to_z-of_z at c.month_at.ensures.value in
    let value = simp to_z-of_z at c.quotient.ensures.value in
    rw has (simp to_z-of_z (value ∙ ap (λ m. int_div_euclid m every.months) month_is))

pub returns-else-every-gt0-clause-value : goal.returns-else-every-gt0-clause-value
returns-else-every-gt0-clause-value c =
    let every = c.args.every in
    let months : FitsSigned w64 every.months = search rules in
    let nanos : FitsSigned w64 every.nanos = search rules in
    let t : FitsSigned w128 c.args.t = c.ranges.t in
    let wide : FitsSigned w128 c.quotient-else-every-gt0.result = omega (arith, signed_arith, c.quotient-else-every-gt0.ensures.bound) in
    let has = simp to_z-of_z at c.if-every-gt0.false in
    let value = simp to_z-of_z at c.quotient-else-every-gt0.ensures.value in
    rw has (simp to_z-of_z value)
