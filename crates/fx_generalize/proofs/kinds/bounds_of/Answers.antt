use Rattle.std.proofs.Common.{◌≡◌, ◌≤◌, ◌<◌, arith}
use Rattle.fx_generalize.specs.Solved.{numbers_bounds}
use Rattle.fx_generalize.proofs.KindLaws.{not_bounded, bounded, ascend_more}
use Rattle.fx_generalize.proofs.kinds.bounds_of.Goals as goal

pub loop-i-preserved-then-set : goal.loop-i-preserved-then-set
loop-i-preserved-then-set c = (
  not_bounded c.args.sorts.now c.args.types.now c.loop-i.i c.loop-i.bounds c.loop-i.invariant.0 c.sorts_at-set.result c.sorts_at-set.ensures c.if-set.true,
  c.loop-i.invariant.1,
  (let le : numbers_bounds c.loop-i.bounds ≤ c.loop-i.i = c.loop-i.invariant.2 in omega arith),
)

pub loop-i-preserved : goal.loop-i-preserved
loop-i-preserved c =
    let same : c.in-Ok.var ≡ c.loop-i.i = omega arith in
    let ascends = ascend_more c.loop-i.bounds c.push.new.self (record { var = c.in-Ok.var; kinds = c.in_ok-kinds.kinds; span = c.sorts_at-set.result.span }) c.loop-i.i c.in_ok-push.ensures.ok same c.loop-i.invariant.1 c.loop-i.invariant.2 in (
      bounded c.args.sorts.now c.args.types.now c.loop-i.i c.loop-i.bounds c.loop-i.invariant.0 c.sorts_at-set.result c.push.new.self
          (record { var = c.in-Ok.var; kinds = c.in_ok-kinds.kinds; span = c.sorts_at-set.result.span }) c.sorts_at-set.ensures c.if-set.false c.in_ok-push.ensures.ok same (c.in_ok-kinds.ensures c.if-set.false),
      ascends.0,
      ascends.1,
    )

pub returns-clause-exact : goal.returns-clause-exact
returns-clause-exact c =
    λ q. (
      λ h k lt. (c.loop-i.invariant.0 q).0 h k (let less : k < c.loop-i.i = omega arith in less),
      λ h. (c.loop-i.invariant.0 q).1 (λ k lt. h k (omega arith)),
    )
