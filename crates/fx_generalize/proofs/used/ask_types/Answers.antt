use Rattle.std.proofs.Common.{◌≡◌, ◌+◌, ◌≤◌, ◌^◌, max, arith}
use Rattle.fx_types.specs.Numbers.{numbers}
use Rattle.fx_types.specs.Shape.{term}
use Rattle.fx_unify.specs.Solutions.{next_of}
use Rattle.fx_generalize.specs.Solved.{numbers_terms}
use Rattle.fx_generalize.proofs.UseLaws.{term_number, term_step, all_types, raised_number}
use Rattle.fx_generalize.proofs.used.ask_types.Goals as goal

pub raised-requires : goal.raised-requires
raised-requires c =
    let le : numbers (term c.ty-item.result) ≤ numbers_terms c.args.types.now = term_number c.args.types.now c.loop-ty.ty-index c.ty-item.result c.loop-ty-test.true c.ty-item.is in
    let room : numbers_terms c.args.types.now + c.args.first ≤ 2 ^ 32 = c.requires in
    omega arith

pub loop-ty-preserved : goal.loop-ty-preserved
loop-ty-preserved c = (
  term_step c.args.first c.args.bindings c.loop-ty.asked c.in_ok-asked.asked c.args.types.now c.loop-ty.ty-index c.ty-item.result c.in_ok-raised.raised c.loop-ty-test.true c.ty-item.is c.in_ok-raised.ensures
      c.loop-ty.invariant.0 c.in_ok-asked.ensures.ok,
  (let le : numbers (term c.ty-item.result) ≤ numbers_terms c.args.types.now = term_number c.args.types.now c.loop-ty.ty-index c.ty-item.result c.loop-ty-test.true c.ty-item.is in
      let small : numbers (term c.in_ok-raised.raised) ≤ c.args.first + numbers_terms c.args.types.now = raised_number c.args.first (numbers_terms c.args.types.now) (term c.ty-item.result) (term c.in_ok-raised.raised) c.in_ok-raised.ensures le in
      let next : next_of c.in_ok-asked.asked ≡ max (next_of c.loop-ty.asked) (numbers (term c.in_ok-raised.raised)) = c.in_ok-asked.ensures.next in
      let before : next_of c.loop-ty.asked ≤ max (next_of c.args.bindings) (numbers_terms c.args.types.now + c.args.first) = c.loop-ty.invariant.1 in omega arith),
  (let next : next_of c.in_ok-asked.asked ≡ max (next_of c.loop-ty.asked) (numbers (term c.in_ok-raised.raised)) = c.in_ok-asked.ensures.next in
      let before : next_of c.args.bindings ≤ next_of c.loop-ty.asked = c.loop-ty.invariant.2 in omega arith),
)

pub returns-clause-ok : goal.returns-clause-ok
returns-clause-ok c = all_types c.args.first c.args.bindings c.loop-ty.asked c.args.types.now c.loop-ty.ty-index c.loop-ty-test.false c.loop-ty.invariant.0
