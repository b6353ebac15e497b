use Rattle.fx_unify.specs.Part.{part, value}
use Rattle.fx_unify.proofs.SolvingLaws.{resolved}
use Rattle.fx_unify.proofs.store.Store.take_apart.Goals as goal

pub returns : goal.returns
returns c =
    resolved c.solve.result c.args.self.now c.solve.new.self (λ s. value s (part c.in_ok-a.a)) (λ s. value s (part c.in_ok-b.b)) (λ s. value s (part c.args.left)) (λ s. value s (part c.args.right))
    c.in_ok-a.ensures.same c.in_ok-b.ensures.same c.solve.ensures
