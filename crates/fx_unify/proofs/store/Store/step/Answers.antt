use Rattle.std.proofs.Common.{sym, Ok}
use Rattle.fx_types.specs.Term.{type_variable}
use Rattle.fx_unify.specs.Part.{part, p_is, value}
use Rattle.fx_unify.proofs.SolvingLaws.{resolved}
use Rattle.fx_unify.proofs.store.Store.step.Goals as goal

pub returns-in-Some-last_variable : goal.returns-in-Some-last_variable
returns-in-Some-last_variable c =
    resolved {A = Unit {0}} (Ok tt) c.args.self.now c.join.new.self (λ s. value s (p_is (type_variable c.in-Some.one))) (λ s. value s (p_is (type_variable c.in-Some-last_variable.other)))
    (λ s. value s (part c.args.left)) (λ s. value s (part c.args.right)) (λ s solved. sym (c.in-Some.ensures s solved)) (λ s solved. sym (c.in-Some-last_variable.ensures s solved)) c.in_ok-join.ensures
