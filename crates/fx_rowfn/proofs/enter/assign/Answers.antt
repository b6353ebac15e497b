use Rattle.std.proofs.Common.{subst, sym, ◌∙◌}
use Rattle.fx_values.specs.Shape.{closed}
use Rattle.fx_rowfn.specs.State.{Leads, scope_of, tree_left}
use Rattle.fx_rowfn.proofs.EnterLaws.{assign_none, assign_some}
use Rattle.fx_rowfn.proofs.enter.assign.Goals as goal

pub returns-in-Some : goal.returns-in-Some
returns-in-Some c = λ test.
    assign_some test c.args.entry c.assign_first.result c.moved.result c.as_ref.result.now c.in-Some.first (c.as_ref.ensures ∙ c.in_ok-closure.ensures.cases) c.moved.ensures c.in-Some.ensures.at (c.assign_first.ensures test)

pub returns-in-None : goal.returns-in-None
returns-in-None c = λ test.
    assign_none test c.args.entry c.result_of.result c.as_ref.result.now (c.as_ref.ensures ∙ c.in_ok-closure.ensures.cases) c.in-None.ensures.at
    (subst (λ k. Leads (tree_left test (scope_of c.args.entry.scope) (closed k).result) test c.result_of.result) (c.as_ref-in-None.ensures ∙ sym c.as_ref.ensures) (c.result_of.ensures test))
