use Rattle.std.proofs.Common.{◌≡◌, pos, ◌-ℤ◌, FitsSigned, w64, unsigned_abs, ap, ◌∙◌, arith, rules}
use Rattle.std.specs.Prelude.{◌<ℤ◌}
use Rattle.std.specs.Int.{w128, int_div_euclid}
use Rattle.std.proofs.lemmas.Int.{to_z-of_z}
use Rattle.jiff_core.proofs.SignedLemmas.{signed_arith, one_part}
use Rattle.fx_time.proofs.WindowLemmas.{stopped_months, stopped_nanos}
use Rattle.fx_time.proofs.window.last_stopped.Goals as goal

pub returns-then-period-gt0-clause-last : goal.returns-then-period-gt0-clause-last
returns-then-period-gt0-clause-last c k =
    let every = c.args.every in
    let period = c.args.period in
    let months : FitsSigned w64 every.months = search rules in
    let length : FitsSigned w64 period.months = search rules in
    let t : FitsSigned w64 c.args.t = c.ranges.t in
    let t128 : FitsSigned w128 c.args.t = omega (arith, signed_arith) in
    let month64 : FitsSigned w64 c.month_at-month.result = omega (arith, signed_arith, c.month_at-month.ensures.bound) in
    let month : FitsSigned w128 c.month_at-month.result = omega (arith, signed_arith, c.month_at-month.ensures.bound) in
    let length128 : FitsSigned w128 period.months = omega (arith, signed_arith) in
    let left : FitsSigned w128 (c.month_at-month.result -ℤ period.months) = omega (arith, signed_arith, c.month_at-month.ensures.bound) in
    let wide : FitsSigned w128 c.quotient.result = omega (arith, signed_arith, c.quotient.ensures.bound) in
    let has = simp to_z-of_z at c.if-period-gt0.true in
    let after = simp to_z-of_z at c.month_at-month.ensures.last in
    let value = simp to_z-of_z at c.quotient.ensures.value in
    let some : pos 0 <ℤ every.months = c.requires.2 (omega (arith, signed_arith, has)) in
    let e : every.months ≡ pos (unsigned_abs every.months) = omega (arith, signed_arith, one_part every.months) in
    simp to_z-of_z (rw value (stopped_months every (unsigned_abs every.months) (omega (arith, signed_arith)) period c.args.t c.month_at-month.result k has e after))

pub returns-else-period-gt0-clause-last : goal.returns-else-period-gt0-clause-last
returns-else-period-gt0-clause-last c k =
    let period = c.args.period in
    let length : FitsSigned w64 period.months = search rules in
    let nanos : FitsSigned w64 period.nanos = search rules in
    let nanos128 : FitsSigned w128 period.nanos = omega (arith, signed_arith) in
    let t : FitsSigned w64 c.args.t = c.ranges.t in
    let t128 : FitsSigned w128 c.args.t = omega (arith, signed_arith) in
    let left : FitsSigned w128 (c.args.t -ℤ period.nanos) = omega (arith, signed_arith) in
    let wide : FitsSigned w128 c.last_started.result = omega (arith, signed_arith, c.last_started.ensures.bound) in
    let has = simp to_z-of_z at c.if-period-gt0.false in
    let before = simp to_z-of_z at c.last_started.ensures.last in
    simp to_z-of_z (stopped_nanos c.args.every period c.args.t c.last_started.result k has (before k))

pub returns-then-period-gt0-clause-value : goal.returns-then-period-gt0-clause-value
returns-then-period-gt0-clause-value c =
    let every = c.args.every in
    let period = c.args.period in
    let months : FitsSigned w64 every.months = search rules in
    let length : FitsSigned w64 period.months = search rules in
    let t : FitsSigned w64 c.args.t = c.ranges.t in
    let t128 : FitsSigned w128 c.args.t = omega (arith, signed_arith) in
    let month64 : FitsSigned w64 c.month_at-month.result = omega (arith, signed_arith, c.month_at-month.ensures.bound) in
    let month : FitsSigned w128 c.month_at-month.result = omega (arith, signed_arith, c.month_at-month.ensures.bound) in
    let length128 : FitsSigned w128 period.months = omega (arith, signed_arith) in
    let left : FitsSigned w128 (c.month_at-month.result -ℤ period.months) = omega (arith, signed_arith, c.month_at-month.ensures.bound) in
    let wide : FitsSigned w128 c.quotient.result = omega (arith, signed_arith, c.quotient.ensures.bound) in
    let has = simp to_z-of_z at c.if-period-gt0.true in
    let month_is = simp to_z-of_z at c.month_at-month.ensures.value in
    let value = simp to_z-of_z at c.quotient.ensures.value in
    rw has (simp to_z-of_z (value ∙ ap (λ m. int_div_euclid (m -ℤ period.months) every.months) month_is))

pub returns-else-period-gt0-clause-value : goal.returns-else-period-gt0-clause-value
returns-else-period-gt0-clause-value c =
    let period = c.args.period in
    let length : FitsSigned w64 period.months = search rules in
    let nanos : FitsSigned w64 period.nanos = search rules in
    let nanos128 : FitsSigned w128 period.nanos = omega (arith, signed_arith) in
    let t : FitsSigned w64 c.args.t = c.ranges.t in
    let t128 : FitsSigned w128 c.args.t = omega (arith, signed_arith) in
    let left : FitsSigned w128 (c.args.t -ℤ period.nanos) = omega (arith, signed_arith) in
    let wide : FitsSigned w128 c.last_started.result = omega (arith, signed_arith, c.last_started.ensures.bound) in
    let has = simp to_z-of_z at c.if-period-gt0.false in
    let value = simp to_z-of_z at c.last_started.ensures.value in
    rw has (simp to_z-of_z value)
