use Rattle.std.proofs.Common.{◌≤◌, max, arith}
use Rattle.fx_types.specs.Numbers.{numbers}
use Rattle.fx_types.specs.Shape.{term}
use Rattle.fx_generalize.specs.Solved.{numbers_bounds, numbers_terms}
use Rattle.fx_generalize.proofs.UseLaws.{all_asked, raised_number}
use Rattle.fx_generalize.proofs.solved.Solved.used.Goals as goal

pub returns-clause-used : goal.returns-clause-used
returns-clause-used c =
    all_asked c.args.self.now c.args.bindings c.in_ok-bounded.bounded c.in_ok-bindings.bindings c.args.first c.as_slice.result.now c.as_slice-2.result.now (term c.in_ok-ty.ty) c.requires.unused
    c.as_slice.ensures c.as_slice-2.ensures c.in_ok-bounded.ensures.ok c.in_ok-bindings.ensures.ok c.in_ok-ty.ensures

pub returns-clause-numbers : goal.returns-clause-numbers
returns-clause-numbers c =
    let few : max (numbers (term c.args.self.now.ty)) (max (numbers_terms c.args.self.now.also) (numbers_bounds c.args.self.now.bounds)) ≤ c.args.self.now.vars = c.requires.numbered in
    raised_number c.args.first c.args.self.now.vars (term c.args.self.now.ty) (term c.in_ok-ty.ty) c.in_ok-ty.ensures (omega arith)
