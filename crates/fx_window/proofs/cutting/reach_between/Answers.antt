use Rattle.std.proofs.Common.{pos, ◌-ℤ◌, FitsSigned, w64, arith, rules}
use Rattle.std.proofs.lemmas.Int.{ints, to_z-of_z}
use Rattle.std.specs.Int.{w128}
use Rattle.fx_window.proofs.Cuts.{between_some}
use Rattle.fx_window.proofs.Windows.{near_between}
use Rattle.fx_window.proofs.cutting.reach_between.Goals as goal

pub returns-clause-numbers : goal.returns-clause-numbers
returns-clause-numbers c =
    let start : FitsSigned w64 c.args.bounds.start = search rules in
    let stop : FitsSigned w64 c.args.bounds.stop = search rules in
    let some = simp to_z-of_z at c.if-stop-start.false in
    let last : FitsSigned w64 (c.args.bounds.stop -ℤ pos 1) = omega (arith, ints, some) in
    let first : FitsSigned w128 c.windows_at-first.result.0 = search rules in
    let next : FitsSigned w128 c.windows_at-next.result.1 = search rules in
    let stopped = simp to_z-of_z at c.windows_at-first.ensures.stopped in
    let started = simp to_z-of_z at c.windows_at-next.ensures.started in
    simp to_z-of_z (between_some c.args.every c.args.bounds c.windows_at-first.result.0 c.windows_at-next.result.1 (omega (arith, ints, some)) stopped started)

pub returns-clause-near : goal.returns-clause-near
returns-clause-near c k from to =
    let start : FitsSigned w64 c.args.bounds.start = search rules in
    let stop : FitsSigned w64 c.args.bounds.stop = search rules in
    let some = simp to_z-of_z at c.if-stop-start.false in
    let last : FitsSigned w64 (c.args.bounds.stop -ℤ pos 1) = omega (arith, ints, some) in
    let first : FitsSigned w128 c.windows_at-first.result.0 = search rules in
    let next : FitsSigned w128 c.windows_at-next.result.1 = search rules in
    let after = simp to_z-of_z at c.windows_at-first.ensures.first in
    let starts = simp to_z-of_z at c.windows_at-next.ensures.second in
    near_between c.args.every c.args.every (c.requires, c.requires, λ some. some) c.args.bounds.start (c.args.bounds.stop -ℤ pos 1)
    c.windows_at-first.result.0 c.windows_at-next.result.1 k start last after starts (simp to_z-of_z at from) (simp to_z-of_z at to)
