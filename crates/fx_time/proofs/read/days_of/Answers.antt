use Rattle.std.proofs.Common.{◌≡◌, ℤ, negsuc, Fits, ◌+ℤ◌, ◌≤ℤ◌, Some, pos, sym, ap, ◌∙◌, FitsSigned, w32, to_z, of_z, arith, unsigned_abs}
use Rattle.std.specs.Int.{w8, w16, IsNonNegative}
use Rattle.std.proofs.lemmas.Int.{to_z-of_z, to_z_pos}
use Rattle.jiff_core.proofs.SignedLemmas.{signed_arith}
use Rattle.jiff_core.specs.Date.{epoch_day}
use Rattle.fx_time.proofs.CalendarLemmas.{is_date, day_low, day_found, day_only, nonneg_abs}
use Rattle.fx_time.proofs.FrontLemmas.{some_back}
use Rattle.fx_time.proofs.read.days_of.Goals as goal

pub returns-in_default-clause-value : goal.returns-in_default-clause-value
returns-in_default-clause-value c n =
    let no = c.in_default.ensures.succeeds in
    let year : to_z w16 c.args.year ≡ pos c.args.year = to_z_pos w16 c.args.year (omega arith) in
    let month : to_z w8 c.args.month ≡ pos c.args.month = to_z_pos w8 c.args.month (omega arith) in
    let day : to_z w8 c.args.day ≡ pos c.args.day = to_z_pos w8 c.args.day (omega arith) in
    (λ e. let is = is_date n c.args.year c.args.month c.args.day c.requires.year_in e in let ok = no.1 (rw (year, month, day) is) in absurd cc, λ e. absurd cc)

-- the date that the library has is the one that was asked for
asked : (c : goal.After-to_unix_epoch_day) → (c.in-Ok.date.year ≡ pos c.args.year) × (c.in-Ok.date.month ≡ c.args.month) × (c.in-Ok.date.day ≡ c.args.day)
asked c =
    let is = c.in-Ok.ensures.value in
    let month = is.1 ∙ to_z_pos w8 c.args.month (omega arith) in
    let day = is.2 ∙ to_z_pos w8 c.args.day (omega arith) in
    (is.0 ∙ to_z_pos w16 c.args.year (omega arith), cc, cc)

-- and no sum leaves its type
shifted : (c : goal.After-to_unix_epoch_day) → to_z w32 (of_z w32 (to_z w32 (of_z w32 c.to_unix_epoch_day.result) +ℤ pos 719_528)) ≡ epoch_day c.in-Ok.date +ℤ pos 719_528
shifted c =
    let day : FitsSigned w32 c.to_unix_epoch_day.result = omega (arith, signed_arith, c.to_unix_epoch_day.ensures.bound) in
    let sum : FitsSigned w32 (c.to_unix_epoch_day.result +ℤ pos 719_528) = omega (arith, signed_arith, c.to_unix_epoch_day.ensures.bound) in
    simp to_z-of_z (ap (λ z. z +ℤ pos 719_528) c.to_unix_epoch_day.ensures.value)

-- a number of days from 0 on is one without a sign
unsigned : (z : ℤ) → pos 0 ≤ℤ z → z ≤ℤ pos 3_652_424 → IsNonNegative z × Fits w32 (unsigned_abs z)
unsigned (pos n) low high = (tt, omega (arith, signed_arith, high))
unsigned (negsuc n) low high = absurd (omega (arith, signed_arith, low))

pub overflow_cast-result : goal.overflow_cast-result
overflow_cast-result c =
    let is = asked c in
    let low = day_low c.in-Ok.date c.args.year c.args.month c.args.day is.0 is.1 is.2 in
    let value = c.to_unix_epoch_day.ensures.value in
    let high : (epoch_day c.in-Ok.date +ℤ pos 719_528) ≤ℤ pos 3_652_424 = omega (arith, signed_arith, value, c.to_unix_epoch_day.ensures.bound) in
    rw (shifted c) (unsigned (epoch_day c.in-Ok.date +ℤ pos 719_528) low high)

pub returns-clause-value : goal.returns-clause-value
returns-clause-value c n =
    let is = asked c in
    let day = epoch_day c.in-Ok.date +ℤ pos 719_528 in
    let low = day_low c.in-Ok.date c.args.year c.args.month c.args.day is.0 is.1 is.2 in
    let number = nonneg_abs day low in
    let only = day_only c.in-Ok.date c.args.year c.args.month c.args.day is.0 is.1 is.2 n in
    let found = day_found c.in-Ok.date c.args.year c.args.month c.args.day is.0 is.1 is.2 n in
    let value = c.to_unix_epoch_day.ensures.value in
    let bound = c.to_unix_epoch_day.ensures.bound in
    rw (shifted c) (
      λ e. ap (λ k. Some k) (ap unsigned_abs (number ∙ only e)),
      λ e.
          let same : day ≡ pos n = sym number ∙ ap pos (some_back (unsigned_abs day) n e) in
          found (omega (arith, signed_arith)) same,
    )
