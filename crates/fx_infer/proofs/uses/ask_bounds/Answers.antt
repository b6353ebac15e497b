use Rattle.std.proofs.Common.{◌≡◌, ◌+◌, ◌≤◌, ◌^◌, max, arith}
use Rattle.fx_schemes.specs.Scheme.{numbers_bounds}
use Rattle.fx_unify.specs.Solutions.{next_of}
use Rattle.fx_infer.proofs.UsingLaws.{bound_number, bound_step, all_bounds}
use Rattle.fx_infer.proofs.uses.ask_bounds.Goals as goal

pub overflow_add-bound : goal.overflow_add-bound
overflow_add-bound c =
    let le : c.bound-item.result.var + 1 ≤ numbers_bounds c.args.bounds.now = bound_number c.args.bounds.now c.loop-bound.bound-index c.bound-item.result c.loop-bound-test.true c.bound-item.is in
    let room : numbers_bounds c.args.bounds.now + c.args.first ≤ 2 ^ 32 = c.requires in
    omega arith

pub loop-bound-preserved : goal.loop-bound-preserved
loop-bound-preserved c = (
  bound_step c.args.first c.args.bindings c.loop-bound.asked c.in_ok-asked.asked c.args.bounds.now c.loop-bound.bound-index c.bound-item.result _ c.loop-bound-test.true c.bound-item.is (λ i. c.bound-item.result.var + c.args.first)
      c.loop-bound.invariant.0 c.in_ok-asked.ensures.ok,
  (let next : next_of c.in_ok-asked.asked ≡ max (next_of c.loop-bound.asked) (c.bound-item.result.var + c.args.first + 1) = c.in_ok-asked.ensures.next in
      let before : next_of c.args.bindings ≤ next_of c.loop-bound.asked = c.loop-bound.invariant.1 in omega arith),
)

pub returns-clause-ok : goal.returns-clause-ok
returns-clause-ok c = all_bounds c.args.first c.args.bindings c.loop-bound.asked c.args.bounds.now c.loop-bound.bound-index c.loop-bound-test.false c.loop-bound.invariant.0
