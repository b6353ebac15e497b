use Rattle.std.proofs.Common.{map, subst}
use Rattle.fx_ast.specs.Shape.{tree_of}
use Rattle.fx_values.specs.Shape.{slot, slots_of, val}
use Rattle.fx_rowfn.specs.Calls.{args_left}
use Rattle.fx_rowfn.specs.State.{Leads, props_from, scope_of}
use Rattle.fx_rowfn.proofs.calls.callee_known.Goals as goal

pub returns : goal.returns
returns c = λ test.
    subst (λ done. Leads (args_left test (scope_of c.args.scope) c.args.place (val c.args.callee) (props_from (tree_of c.args.whole.now) 0) (slots_of (map slot done))) test c.arguments_from.result)
    c.empty.ensures (c.arguments_from.ensures test)
