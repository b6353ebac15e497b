use Rattle.std.proofs.Common.{◌≡◌, FitsSigned, w64, refl, ◌∙◌, rules}
use Rattle.std.specs.Prelude.{neg_ℤ}
use Rattle.std.proofs.lemmas.Int.{to_z-of_z}
use Rattle.fx_time.specs.Spans.{span_after}
use Rattle.fx_ops.proofs.DateLemmas.{fits_test, unfit_test}
use Rattle.fx_ops.proofs.dates.subtracted.Goals as goal

pub returns-in_default-checked_neg-clause-answer : goal.returns-in_default-checked_neg-clause-answer
returns-in_default-checked_neg-clause-answer c =
    let span = c.args.span in
    let months : FitsSigned w64 span.months = search rules in
    let nanos : FitsSigned w64 span.nanos = search rules in
    let turned : FitsSigned w64 (neg_ℤ span.months) × (c.in-Some.months ≡ neg_ℤ span.months) = simp to_z-of_z at c.in-Some.ensures in
    let out : FitsSigned w64 (neg_ℤ span.nanos) → ⊥ = simp to_z-of_z at c.in_default-checked_neg.ensures in
    rw (fits_test (neg_ℤ span.months) turned.0, unfit_test (neg_ℤ span.nanos) out) refl

pub returns-clause-answer : goal.returns-clause-answer
returns-clause-answer c =
    let span = c.args.span in
    let t : FitsSigned w64 c.args.t = c.ranges.t in
    let months : FitsSigned w64 span.months = search rules in
    let nanos : FitsSigned w64 span.nanos = search rules in
    let back : FitsSigned w64 (neg_ℤ span.months) × (c.in-Some.months ≡ neg_ℤ span.months) = simp to_z-of_z at c.in-Some.ensures in
    let down : FitsSigned w64 (neg_ℤ span.nanos) × (c.in-Some-checked_neg.nanos ≡ neg_ℤ span.nanos) = simp to_z-of_z at c.in-Some-checked_neg.ensures in
    let months64 : FitsSigned w64 c.in-Some.months = rw back.1 back.0 in
    let nanos64 : FitsSigned w64 c.in-Some-checked_neg.nanos = rw down.1 down.0 in
    let after = simp to_z-of_z at c.add_span.ensures in
    let is : c.add_span.result ≡ span_after c.args.t (record { months = neg_ℤ span.months; nanos = neg_ℤ span.nanos }) =
    after ∙ (λ i. span_after c.args.t (record { months = back.1 i; nanos = down.1 i })) in
    let answer = rw is at c.time_from.ensures.answer in
    rw (fits_test (neg_ℤ span.months) back.0, fits_test (neg_ℤ span.nanos) down.0) answer
