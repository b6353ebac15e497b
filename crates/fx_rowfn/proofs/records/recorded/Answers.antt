use Rattle.std.proofs.Common.{List, ℕ, subst, sym}
use Rattle.std.specs.Prelude.{Option}
use Rattle.fx_ast.specs.Shape.{tree_of}
use Rattle.fx_ast.specs.Tree.{rec}
use Rattle.fx_rowfn.specs.State.{Leads, props_from, scope_of, shape_left}
use Rattle.fx_rowfn.proofs.records.recorded.Goals as goal

pub returns-in-Some : goal.returns-in-Some
returns-in-Some c = λ test.
    subst (λ (b : Option (List ℕ)). Leads (shape_left test (scope_of c.args.scope) c.args.whole.now.place (rec b (props_from (tree_of c.args.whole.now) 0))) test c.recorded_on.result) (sym c.in-Some.is)
    (c.recorded_on.ensures test)

pub returns-in-None : goal.returns-in-None
returns-in-None c = λ test.
    subst (λ (b : Option (List ℕ)). Leads (shape_left test (scope_of c.args.scope) c.args.whole.now.place (rec b (props_from (tree_of c.args.whole.now) 0))) test c.alone.result) (sym c.in-None.is)
    (c.alone.ensures test)
