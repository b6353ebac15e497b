use Rattle.std.proofs.Common.{map, subst}
use Rattle.fx_ast.specs.Shape.{tree_of}
use Rattle.fx_values.specs.Shape.{slot, slots_of, val}
use Rattle.fx_rowfn.specs.Calls.{piped_args_left}
use Rattle.fx_rowfn.specs.State.{Leads, props_from, scope_of}
use Rattle.fx_rowfn.proofs.pipes.piped_callee_known.Goals as goal

pub returns : goal.returns
returns c = λ test.
    subst (λ done. Leads (piped_args_left test (scope_of c.args.scope) c.args.place (val c.args.of.input) (val c.args.of.callee) (props_from (tree_of c.args.call.now) 0) (slots_of (map slot done))) test c.piped_from.result)
    c.empty.ensures (c.piped_from.ensures test)
