use Rattle.std.proofs.Common.{◌≡◌, ℕ, FitsSigned, sym, ◌∙◌, arith}
use Rattle.std.specs.Int.{w128}
use Rattle.std.proofs.lemmas.Int.{to_z-of_z}
use Rattle.jiff_core.proofs.SignedLemmas.{signed_arith}
use Rattle.fx_time.specs.Calendar.{date_after}
use Rattle.fx_time.proofs.FrontLemmas.{some_back}
use Rattle.fx_time.specs.Value.{date_of_moment}
use Rattle.fx_time.proofs.ReadLemmas.{no_moment, no_date, time_is}
use Rattle.fx_time.proofs.ValueLaws.{value_told}
use Rattle.fx_time.proofs.read.read_time.Goals as goal

pub returns-in_err-moment-clause-is : goal.returns-in_err-moment-clause-is
returns-in_err-moment-clause-is c t =
    let none = sym c.read_moment.ensures.value ∙ c.in_err-moment.was in
    let nothing = c.from_residual.ensures in
    (λ h. absurd (no_moment c.args.text.now t none h), λ e. absurd cc)

pub returns-in_err-days-clause-is : goal.returns-in_err-days-clause-is
returns-in_err-days-clause-is c t =
    let moment = sym c.read_moment.ensures.value ∙ c.in_ok-moment.was in
    let none = c.in_err-days.was in
    let nothing = c.from_residual-in_err-days.ensures in
    let apart : (n : ℕ) → date_after n ≡ date_of_moment c.in_ok-moment.moment → ⊥ = λ n e. let some = sym none ∙ (c.days_of.ensures.value n).0 e in cc in
    (λ h. absurd (no_date c.args.text.now t c.in_ok-moment.moment moment apart h), λ e. absurd cc)

pub returns-clause-is : goal.returns-clause-is
returns-clause-is c t =
    let moment = sym c.read_moment.ensures.value ∙ c.in_ok-moment.was in
    let value = c.days_of.ensures.value in
    let date = (value c.in_ok-days.days).1 c.in_ok-days.was in
    let only : (k : ℕ) → date_after k ≡ date_of_moment c.in_ok-moment.moment → k ≡ c.in_ok-days.days = λ k e. some_back k c.in_ok-days.days (sym ((value k).0 e) ∙ c.in_ok-days.was) in
    let is = time_is c.args.text.now t c.in_ok-moment.moment c.in_ok-days.days moment date only in
    let value = c.instant_at-instant.ensures in
    let wide : FitsSigned w128 c.instant_at-instant.result = omega (arith, signed_arith, c.instant_at-instant.type_inv) in
    let fits = simp to_z-of_z at (c.in_64_bits.ensures t) in
    (λ h. let r = is.0 h in fits.0 (r.0, r.1 ∙ sym value), λ e. let r = fits.1 e in is.1 (r.0, r.1 ∙ value))

pub returns-in_err-moment-clause-value : goal.returns-in_err-moment-clause-value
returns-in_err-moment-clause-value c = value_told c.args.text.now _ (returns-in_err-moment-clause-is c)

pub returns-in_err-days-clause-value : goal.returns-in_err-days-clause-value
returns-in_err-days-clause-value c = value_told c.args.text.now _ (returns-in_err-days-clause-is c)

pub returns-clause-value : goal.returns-clause-value
returns-clause-value c = value_told c.args.text.now _ (returns-clause-is c)
