use Rattle.std.proofs.Common.{ap, ◌∙◌, FitsSigned, w64, arith}
use Rattle.std.specs.Int.{w128}
use Rattle.std.proofs.lemmas.Int.{to_z-of_z}
use Rattle.jiff_core.proofs.SignedLemmas.{signed_arith}
use Rattle.fx_time.proofs.PrintLemmas.{printed_is}
use Rattle.fx_time.proofs.print.stamp.Goals as goal

pub returns : goal.returns
returns c =
    let f : FitsSigned w64 c.args.t = c.ranges.t in
    let wide : FitsSigned w128 c.args.t = omega (arith, signed_arith) in
    let value = rw c.unwrap-stamp.ensures at c.from_nanosecond.ensures.value in
    let is = simp to_z-of_z at value in
    let shown = c.timestamp_text.ensures in
    let lower = ap (λ o. o.0) c.new.ensures in
    let separator = ap (λ o. o.1) c.new.ensures in
    let precision = ap (λ o. o.2) c.new.ensures in
    shown.2 ∙ rw (lower, separator, precision) (printed_is shown.0 c.args.t (shown.1 ∙ is) f)
