use Rattle.std.proofs.Common.{◌≡◌, Some, pos, ◌+ℤ◌, ◌*ℤ◌, FitsSigned, w64, sym, ap, ◌∙◌, arith}
use Rattle.std.specs.Int.{w128}
use Rattle.std.proofs.lemmas.Int.{to_z-of_z}
use Rattle.jiff_core.proofs.SignedLemmas.{signed_arith}
use Rattle.fx_time.proofs.TestLemmas.{moment_in, moment_out}
use Rattle.fx_time.proofs.span.moment_on.Goals as goal

pub returns-in-Ok : goal.returns-in-Ok
returns-in-Ok c =
    let midnight = c.args.day *ℤ pos 86_400_000_000_000 in
    let t = midnight +ℤ c.args.clock +ℤ c.args.nanos in
    let day : FitsSigned w64 c.args.day = c.ranges.day in
    let clock : FitsSigned w64 c.args.clock = c.ranges.clock in
    let nanos : FitsSigned w64 c.args.nanos = c.ranges.nanos in
    let day128 : FitsSigned w128 c.args.day = omega (arith, signed_arith) in
    let clock128 : FitsSigned w128 c.args.clock = omega (arith, signed_arith) in
    let nanos128 : FitsSigned w128 c.args.nanos = omega (arith, signed_arith) in
    let midnight128 : FitsSigned w128 midnight = omega (arith, signed_arith) in
    let sum128 : FitsSigned w128 (midnight +ℤ c.args.clock) = omega (arith, signed_arith) in
    let t128 : FitsSigned w128 t = omega (arith, signed_arith) in
    let is : FitsSigned w64 t × (c.in-Ok.t ≡ t) = simp to_z-of_z at c.in-Ok.ensures in
    let fits : FitsSigned w64 c.in-Ok.t = rw is.1 is.0 in
    simp to_z-of_z (ap (λ x. Some x) is.1 ∙ sym (moment_in t is.0))

pub returns-in-Err : goal.returns-in-Err
returns-in-Err c =
    let midnight = c.args.day *ℤ pos 86_400_000_000_000 in
    let t = midnight +ℤ c.args.clock +ℤ c.args.nanos in
    let day : FitsSigned w64 c.args.day = c.ranges.day in
    let clock : FitsSigned w64 c.args.clock = c.ranges.clock in
    let nanos : FitsSigned w64 c.args.nanos = c.ranges.nanos in
    let day128 : FitsSigned w128 c.args.day = omega (arith, signed_arith) in
    let clock128 : FitsSigned w128 c.args.clock = omega (arith, signed_arith) in
    let nanos128 : FitsSigned w128 c.args.nanos = omega (arith, signed_arith) in
    let midnight128 : FitsSigned w128 midnight = omega (arith, signed_arith) in
    let sum128 : FitsSigned w128 (midnight +ℤ c.args.clock) = omega (arith, signed_arith) in
    let t128 : FitsSigned w128 t = omega (arith, signed_arith) in
    let out : FitsSigned w64 t → ⊥ = simp to_z-of_z at c.in-Err.ensures in
    sym (moment_out t out)
