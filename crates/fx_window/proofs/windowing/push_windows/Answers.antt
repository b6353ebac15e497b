use Rattle.std.proofs.Common.{ℤ, List, pos, ◌+ℤ◌, map, FitsSigned, to_z, refl, sym, ap, ◌∙◌, arith, rules}
use Rattle.std.proofs.lemmas.Int.{ints, to_z-of_z}
use Rattle.std.specs.Int.{w128}
use Rattle.fx_data.specs.Regrouped.{all_joined}
use Rattle.fx_group.specs.Turned.{Groups}
use Rattle.fx_window.specs.Numbers.{numbers}
use Rattle.fx_window.specs.Reaches.{rows_in}
use Rattle.fx_window.proofs.Numbers.{numbers_none, numbers_some}
use Rattle.fx_window.proofs.windowing.push_windows.Goals as goal

pub loop-k-init : goal.loop-k-init
loop-k-init c =
    let first : FitsSigned w128 c.args.reach.first = search rules in
    record { same = simp to_z-of_z refl; from = simp to_z-of_z (omega (arith, ints)) }

pub push_window-requires-clause-near : goal.push_window-requires-clause-near
push_window-requires-clause-near c =
    let next : FitsSigned w128 c.args.reach.next = search rules in
    let below = simp to_z-of_z at c.loop-k-test.true in
    c.requires.near (to_z w128 c.loop-k.k-bits) c.loop-k.invariant.from (omega (arith, ints, below))

pub loop-k-preserved : goal.loop-k-preserved
loop-k-preserved c =
    let k = to_z w128 c.loop-k.k-bits in
    let each = rows_in c.args.frame.now.every c.args.frame.now.period c.args.reach c.args.key.now c.args.rows.now in
    let next : FitsSigned w128 c.args.reach.next = search rules in
    let here : FitsSigned w128 (to_z w128 c.loop-k.k-bits) = search rules in
    let below = simp to_z-of_z at c.loop-k-test.true in
    let more : FitsSigned w128 (to_z w128 c.loop-k.k-bits +ℤ pos 1) = omega (arith, ints, below) in
    record {
      same = simp to_z-of_z (ap (λ (g : Groups). all_joined g (map each (numbers (k +ℤ pos 1) c.args.reach.next))) c.in_ok-runs.ensures
          ∙ sym (ap (λ (ks : List ℤ). all_joined c.loop-k.runs (map each ks)) (numbers_some k c.args.reach.next (omega (arith, ints, below)))) ∙ c.loop-k.invariant.same);
      from = simp to_z-of_z (omega (arith, ints, c.loop-k.invariant.from));
    }

pub returns : goal.returns
returns c =
    let k = to_z w128 c.loop-k.k-bits in
    let each = rows_in c.args.frame.now.every c.args.frame.now.period c.args.reach c.args.key.now c.args.rows.now in
    let next : FitsSigned w128 c.args.reach.next = search rules in
    let over = simp to_z-of_z at c.loop-k-test.false in
    sym (ap (λ (ks : List ℤ). all_joined c.loop-k.runs (map each ks)) (numbers_none k c.args.reach.next (omega (arith, ints, over)))) ∙ c.loop-k.invariant.same
