use Rattle.std.proofs.Common.{◌≡◌, ◌-◌, ◌^◌, true, false, pos, ◌+ℤ◌, ◌*ℤ◌, ◌≤ℤ◌, FitsSigned, w64, refl, arith, rules}
use Rattle.std.specs.Prelude.{◌<ℤ◌, neg_ℤ}
use Rattle.std.specs.Int.{w128}
use Rattle.std.proofs.lemmas.Int.{to_z-of_z}
use Rattle.jiff_core.proofs.SignedLemmas.{signed_arith}
use Rattle.fx_time.specs.Windows.{has_months}
use Rattle.fx_time.proofs.WindowLemmas.{near_month, near_nanos}
use Rattle.fx_time.proofs.window.window_bounds.Goals as goal

-- what is known of windows that start with a month
module _ (c : goal.After-struct_told-then-every-gt0-1) where
  fits : FitsSigned w64 c.args.every.months
  fits = search rules

  fits_wide : FitsSigned w128 c.args.every.months
  fits_wide = let f = fits in omega (arith, signed_arith)

  has : has_months c.args.every ≡ true
  has = let f = fits in simp to_z-of_z at c.if-every-gt0.true

  near : (neg_ℤ (pos 20_000) ≤ℤ (c.args.k *ℤ c.args.every.months)) × ((c.args.k *ℤ c.args.every.months) ≤ℤ pos 20_000)
  near = near_month c.args.every c.args.period c.args.k c.requires.pair.1 has (search rules) c.requires.near

  product : FitsSigned w128 (c.args.k *ℤ c.args.every.months)
  product = omega (arith, signed_arith, near)

pub overflow_mul-k : goal.overflow_mul-k
overflow_mul-k c =
    let k : FitsSigned w128 c.args.k = c.ranges.k in
    let f = fits c in
    let g = fits_wide c in
    simp to_z-of_z (product c)

pub month_bounds-requires-clause-month : goal.month_bounds-requires-clause-month
month_bounds-requires-clause-month c =
    let k : FitsSigned w128 c.args.k = c.ranges.k in
    let f = fits c in
    let g = fits_wide c in
    let p = product c in
    simp to_z-of_z (near c)

pub returns-then-every-gt0-clause-start : goal.returns-then-every-gt0-clause-start
returns-then-every-gt0-clause-start c =
    let k : FitsSigned w128 c.args.k = c.ranges.k in
    let f = fits c.before in
    let g = fits_wide c.before in
    let p = product c.before in
    let start = simp to_z-of_z at c.month_bounds.ensures.start in
    rw (has c.before) start

pub returns-then-every-gt0-clause-stop : goal.returns-then-every-gt0-clause-stop
returns-then-every-gt0-clause-stop c =
    let k : FitsSigned w128 c.args.k = c.ranges.k in
    let f = fits c.before in
    let g = fits_wide c.before in
    let p = product c.before in
    let stop = simp to_z-of_z at c.month_bounds.ensures.stop in
    rw (has c.before) stop

-- what is known of windows that start with a number of nanoseconds
module _ (c : goal.After-struct_told-else-every-gt0-2-1) where
  no_months : has_months c.args.every ≡ false
  no_months = let f : FitsSigned w64 c.args.every.months = search rules in simp to_z-of_z at c.if-every-gt0.false

  every_fits : FitsSigned w64 c.args.every.nanos
  every_fits = search rules

  every_fits_wide : FitsSigned w128 c.args.every.nanos
  every_fits_wide = let f = every_fits in omega (arith, signed_arith)

  period_fits : FitsSigned w64 c.args.period.nanos
  period_fits = search rules

  period_fits_wide : FitsSigned w128 c.args.period.nanos
  period_fits_wide = let f = period_fits in omega (arith, signed_arith)

  bounds : (has_months c.args.period ≡ false) × (neg_ℤ (pos (2 ^ 63)) <ℤ (c.args.k *ℤ c.args.every.nanos +ℤ c.args.period.nanos)) × ((c.args.k *ℤ c.args.every.nanos) ≤ℤ pos (2 ^ 63 - 1))
  bounds = near_nanos c.args.every c.args.period c.args.k c.requires.pair no_months c.requires.near

  start_fits : FitsSigned w128 (c.args.k *ℤ c.args.every.nanos)
  start_fits = let p = period_fits in omega (arith, signed_arith, bounds)

  stop_fits : FitsSigned w128 (c.args.k *ℤ c.args.every.nanos +ℤ c.args.period.nanos)
  stop_fits = let p = period_fits in omega (arith, signed_arith, bounds)

pub overflow_add-result : goal.overflow_add-result
overflow_add-result c =
    let k : FitsSigned w128 c.args.k = c.ranges.k in
    let e = every_fits c in
    let f = every_fits_wide c in
    let p = period_fits c in
    let q = period_fits_wide c in
    let s = start_fits c in
    simp to_z-of_z (stop_fits c)

pub returns-else-every-gt0-clause-start : goal.returns-else-every-gt0-clause-start
returns-else-every-gt0-clause-start c =
    let k : FitsSigned w128 c.args.k = c.ranges.k in
    let e = every_fits c in
    let f = every_fits_wide c in
    let s = start_fits c in
    rw (no_months c) (simp to_z-of_z refl)

pub returns-else-every-gt0-clause-stop : goal.returns-else-every-gt0-clause-stop
returns-else-every-gt0-clause-stop c =
    let k : FitsSigned w128 c.args.k = c.ranges.k in
    let e = every_fits c in
    let f = every_fits_wide c in
    let p = period_fits c in
    let q = period_fits_wide c in
    let s = start_fits c in
    let t = stop_fits c in
    rw (no_months c, (bounds c).0) (simp to_z-of_z refl)
