use Rattle.std.proofs.Common.{◌≡◌, ◌<◌, pos, length, FitsSigned, ap, ◌∙◌, arith}
use Rattle.std.specs.Int.{w64}
use Rattle.std.proofs.lemmas.Bool.Decides.{nat_tests}
use Rattle.std.proofs.lemmas.Int.{ints, to_z-of_z}
use Rattle.fx_parse.proofs.tokens.SpanLemmas.{ahead_step, ahead_end}
use Rattle.fx_parse.proofs.span.span_of.Goals as goal

pub loop-rest-preserved : goal.loop-rest-preserved
loop-rest-preserved c = λ months nanos h.
    let test = c.loop-rest-test.true in
    let some : 0 < length c.loop-rest.rest.now = grind (arith, nat_tests, c.is_empty.ensures) in
    rw (c.raised-months.ensures, c.months_of.ensures, c.raised-nanos.ensures, c.nanos_of.ensures)
    (ahead_step months nanos c.loop-rest.months c.loop-rest.nanos c.loop-rest.rest.now c.first_pair-pair.result.rest.now c.first_pair-pair.result.number c.first_pair-pair.result.unit
    (c.loop-rest.invariant months nanos h) some c.first_pair-pair.ensures.pair)

pub returns : goal.returns
returns c = λ months nanos h.
    let test = c.loop-rest-test.false in
    let none : length c.loop-rest.rest.now ≡ 0 = grind (arith, nat_tests, c.is_empty.ensures) in
    let same = ahead_end months nanos c.loop-rest.months c.loop-rest.nanos c.loop-rest.rest.now (c.loop-rest.invariant months nanos h) none in
    let first : c.in_63_bits.result ≡ pos months = c.in_63_bits.ensures ∙ ap (λ k. pos k) (omega arith) in
    let second : c.in_63_bits-2.result ≡ pos nanos = c.in_63_bits-2.ensures ∙ ap (λ k. pos k) (omega arith) in
    let months_fit : FitsSigned w64 (pos months) = omega (arith, ints) in
    let nanos_fit : FitsSigned w64 (pos nanos) = omega (arith, ints) in
    rw (first, second) (simp to_z-of_z)
