use Rattle.std.proofs.Common.{List, map, subst}
use Rattle.fx_ast.specs.Shape.{tree_of}
use Rattle.fx_values.specs.Shape.{val, vals_of}
use Rattle.fx_values.specs.declared.value.Value.{Value}
use Rattle.fx_rowfn.specs.State.{Leads, items_left, scope_of, trees_from}
use Rattle.fx_rowfn.proofs.arrays.arrayed.Goals as goal

pub returns : goal.returns
returns c = λ test.
    subst (λ (vs : List Value). Leads (items_left test (scope_of c.args.scope) (trees_from (tree_of c.args.whole.now) 0) (vals_of (map val vs))) test c.items_from.result) c.empty.ensures
    (c.items_from.ensures test)
