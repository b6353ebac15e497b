use Rattle.std.proofs.Common.{◌≡◌, FitsSigned, w64, ap, sym, ◌∙◌, rules}
use Rattle.std.specs.Prelude.{neg_ℤ}
use Rattle.std.proofs.lemmas.Int.{to_z-of_z}
use Rattle.fx_values.proofs.SpanLaws.{fits_test}
use Rattle.fx_meaning.specs.Value.{span}
use Rattle.fx_value.specs.Ends.{Gives}
use Rattle.fx_values.proofs.operators.minus_span.Goals as goal

pub returns-in-Some-Some : goal.returns-in-Some-Some
returns-in-Some-Some c =
    let d = c.args.d in
    let months : FitsSigned w64 d.months = search rules in
    let nanos : FitsSigned w64 d.nanos = search rules in
    let back : FitsSigned w64 (neg_ℤ d.months) × (c.in-Some-Some.months ≡ neg_ℤ d.months) = simp to_z-of_z at c.in-Some-Some.ensures in
    let down : FitsSigned w64 (neg_ℤ d.nanos) × (c.in-Some-Some.nanos ≡ neg_ℤ d.nanos) = simp to_z-of_z at c.in-Some-Some.ensures' in
    let months64 : FitsSigned w64 c.in-Some-Some.months = rw back.1 back.0 in
    let nanos64 : FitsSigned w64 c.in-Some-Some.nanos = rw down.1 down.0 in
    let made = simp to_z-of_z at c.span_of.ensures in
    rw (fits_test (neg_ℤ d.months) back.0, fits_test (neg_ℤ d.nanos) down.0)
    (ap (λ v. Gives v 0) (sym (made ∙ (λ i. span (record { months = back.1 i; nanos = down.1 i })))))
