use Rattle.std.proofs.Common.{pos, ◌+ℤ◌, FitsSigned, w64, ap, arith}
use Rattle.std.specs.Prelude.{◌<ℤ◌}
use Rattle.std.specs.Int.{w128}
use Rattle.std.proofs.lemmas.Int.{to_z-of_z}
use Rattle.jiff_core.proofs.SignedLemmas.{signed_arith}
use Rattle.fx_time.specs.Windows.{window_start, window_stop}
use Rattle.fx_time.proofs.WindowLemmas.{least_after, held}
use Rattle.fx_time.proofs.window.windows_at.Goals as goal

pub returns-clause-first : goal.returns-clause-first
returns-clause-first c =
    let t : FitsSigned w64 c.args.t = c.ranges.t in
    let last = simp to_z-of_z at c.last_stopped-stopped.ensures.last in
    let wide : FitsSigned w128 c.last_stopped-stopped.result = omega (arith, signed_arith, c.last_stopped-stopped.ensures.bound) in
    let next : FitsSigned w128 (c.last_stopped-stopped.result +ℤ pos 1) = omega (arith, signed_arith, c.last_stopped-stopped.ensures.bound) in
    simp to_z-of_z (least_after (λ k. c.args.t <ℤ window_stop c.args.every c.args.period k) c.last_stopped-stopped.result last)

pub returns-clause-second : goal.returns-clause-second
returns-clause-second c =
    let t : FitsSigned w64 c.args.t = c.ranges.t in
    let t128 : FitsSigned w128 c.args.t = omega (arith, signed_arith) in
    let wide : FitsSigned w128 c.last_started-started.result = omega (arith, signed_arith, c.last_started-started.ensures.bound) in
    let next : FitsSigned w128 (c.last_started-started.result +ℤ pos 1) = omega (arith, signed_arith, c.last_started-started.ensures.bound) in
    let last = simp to_z-of_z at c.last_started-started.ensures.last in
    simp to_z-of_z (least_after (λ k. c.args.t <ℤ window_start c.args.every k) c.last_started-started.result last)

pub returns-clause-holding : goal.returns-clause-holding
returns-clause-holding c k =
    let t : FitsSigned w64 c.args.t = c.ranges.t in
    let t128 : FitsSigned w128 c.args.t = omega (arith, signed_arith) in
    let wide : FitsSigned w128 c.last_stopped-stopped.result = omega (arith, signed_arith, c.last_stopped-stopped.ensures.bound) in
    let next : FitsSigned w128 (c.last_stopped-stopped.result +ℤ pos 1) = omega (arith, signed_arith, c.last_stopped-stopped.ensures.bound) in
    let wide2 : FitsSigned w128 c.last_started-started.result = omega (arith, signed_arith, c.last_started-started.ensures.bound) in
    let next2 : FitsSigned w128 (c.last_started-started.result +ℤ pos 1) = omega (arith, signed_arith, c.last_started-started.ensures.bound) in
    let stopped = simp to_z-of_z at c.last_stopped-stopped.ensures.last in
    let started = simp to_z-of_z at c.last_started-started.ensures.last in
    simp to_z-of_z (held c.args.t c.last_stopped-stopped.result c.last_started-started.result (window_start c.args.every k) (window_stop c.args.every c.args.period k) k (stopped k) (started k))

pub returns-clause-stopped : goal.returns-clause-stopped
returns-clause-stopped c =
    let t : FitsSigned w64 c.args.t = c.ranges.t in
    let wide : FitsSigned w128 c.last_stopped-stopped.result = omega (arith, signed_arith, c.last_stopped-stopped.ensures.bound) in
    let next : FitsSigned w128 (c.last_stopped-stopped.result +ℤ pos 1) = omega (arith, signed_arith, c.last_stopped-stopped.ensures.bound) in
    let value = simp to_z-of_z at c.last_stopped-stopped.ensures.value in
    simp to_z-of_z (ap (λ k. k +ℤ pos 1) value)

pub returns-clause-started : goal.returns-clause-started
returns-clause-started c =
    let t : FitsSigned w64 c.args.t = c.ranges.t in
    let t128 : FitsSigned w128 c.args.t = omega (arith, signed_arith) in
    let wide : FitsSigned w128 c.last_started-started.result = omega (arith, signed_arith, c.last_started-started.ensures.bound) in
    let next : FitsSigned w128 (c.last_started-started.result +ℤ pos 1) = omega (arith, signed_arith, c.last_started-started.ensures.bound) in
    let value = simp to_z-of_z at c.last_started-started.ensures.value in
    simp to_z-of_z (ap (λ k. k +ℤ pos 1) value)
