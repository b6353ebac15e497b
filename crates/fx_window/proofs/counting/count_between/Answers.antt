use Rattle.std.proofs.Common.{◌-◌, ◌^◌, ◌≤ℤ◌, List, length, ℤ, pos, ◌-ℤ◌, FitsSigned, w64, sym, ap, ◌∙◌, arith, rules}
use Rattle.std.proofs.lemmas.Int.{ints, to_z-of_z}
use Rattle.std.specs.Int.{w128, int_gap}
use Rattle.std.specs.Prelude.{neg_ℤ}
use Rattle.fx_window.proofs.Counts.{count_fits, windows_count, windows_none}
use Rattle.fx_window.proofs.Cuts.{between_none, between_some}
use Rattle.fx_window.proofs.Numbers.{gap_abs, so_many_are}
use Rattle.fx_window.proofs.counting.count_between.Goals as goal

pub returns-then-stop-start-clause-windows : goal.returns-then-stop-start-clause-windows
returns-then-stop-start-clause-windows c =
    let start : FitsSigned w64 c.args.bounds.start = search rules in
    let stop : FitsSigned w64 c.args.bounds.stop = search rules in
    let order = simp to_z-of_z at c.if-stop-start.true in
    sym (ap (λ (ns : List ℤ). length ns) (between_none c.args.every c.args.bounds (omega (arith, ints, order))))

-- what is known of the numbers
module _ (c : goal.After-struct_told-4-1) where
  start : FitsSigned w64 c.args.bounds.start
  start = search rules

  stop : FitsSigned w64 c.args.bounds.stop
  stop = search rules

  last : FitsSigned w64 (c.args.bounds.stop -ℤ pos 1)
  last = let s = start in let t = stop in let some = simp to_z-of_z at c.if-stop-start.false in omega (arith, ints, some)

  first : FitsSigned w128 c.windows_at-first.result.0
  first = search rules

  next : FitsSigned w128 c.windows_at-next.result.1
  next = search rules

  bounds : (neg_ℤ (pos (2 ^ 63)) ≤ℤ c.windows_at-first.result.0) × (c.windows_at-first.result.0 ≤ℤ c.windows_at-next.result.1) × (c.windows_at-next.result.1 ≤ℤ pos (2 ^ 63 - 1))
  bounds =
      let s = start in
      let t = stop in
      let l = last in
      let f = first in
      let n = next in
      let some = simp to_z-of_z at c.if-stop-start.false in
      let after = simp to_z-of_z at c.windows_at-first.ensures.first in
      let starts = simp to_z-of_z at c.windows_at-next.ensures.second in
      count_fits c.args.every c.requires c.args.bounds.start (c.args.bounds.stop -ℤ pos 1) c.windows_at-first.result.0 c.windows_at-next.result.1
      (omega (arith, ints)) (omega (arith, ints, some)) (omega (arith, ints)) after starts

  fits : FitsSigned w128 (c.windows_at-next.result.1 -ℤ c.windows_at-first.result.0)
  fits = let b = bounds in omega (arith, ints, b)

pub overflow_sub-result : goal.overflow_sub-result
overflow_sub-result c = let f = first c in let n = next c in simp to_z-of_z (fits c)

pub overflow_cast-result : goal.overflow_cast-result
overflow_cast-result c =
    let f = first c in
    let n = next c in
    let g = fits c in
    let b = bounds c in
    simp to_z-of_z (omega (arith, ints, b), omega (arith, ints, b))

pub returns-clause-windows : goal.returns-clause-windows
returns-clause-windows c =
    let s = start c in
    let t = stop c in
    let l = last c in
    let f = first c in
    let n = next c in
    let g = fits c in
    let some = simp to_z-of_z at c.if-stop-start.false in
    let stopped = simp to_z-of_z at c.windows_at-first.ensures.stopped in
    let started = simp to_z-of_z at c.windows_at-next.ensures.started in
    simp to_z-of_z (gap_abs c.windows_at-first.result.0 c.windows_at-next.result.1 (bounds c).1 ∙ sym (so_many_are c.windows_at-first.result.0 (int_gap c.windows_at-first.result.0 c.windows_at-next.result.1))
    ∙ ap (λ (ns : List ℤ). length ns) (between_some c.args.every c.args.bounds c.windows_at-first.result.0 c.windows_at-next.result.1 (omega (arith, ints, some)) stopped started))

pub returns-then-stop-start-clause-tables : goal.returns-then-stop-start-clause-tables
returns-then-stop-start-clause-tables c key ps rising columns =
    let start : FitsSigned w64 c.args.bounds.start = search rules in
    let stop : FitsSigned w64 c.args.bounds.stop = search rules in
    let order = simp to_z-of_z at c.if-stop-start.true in
    windows_none c.args.every c.requires c.args.bounds key ps (omega (arith, ints, order))

pub returns-clause-tables : goal.returns-clause-tables
returns-clause-tables c key ps rising columns =
    let s = start c in
    let t = stop c in
    let l = last c in
    let f = first c in
    let n = next c in
    let g = fits c in
    let some = simp to_z-of_z at c.if-stop-start.false in
    let stopped = simp to_z-of_z at c.windows_at-first.ensures.stopped in
    let started = simp to_z-of_z at c.windows_at-next.ensures.started in
    let after = simp to_z-of_z at c.windows_at-first.ensures.first in
    let starts = simp to_z-of_z at c.windows_at-next.ensures.second in
    windows_count c.args.every c.requires c.args.bounds key c.windows_at-first.result.0 c.windows_at-next.result.1 ps (omega (arith, ints, some)) stopped started after starts rising columns
    ∙ sym (returns-clause-windows c)
