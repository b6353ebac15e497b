use Rattle.std.proofs.Common.{subst, sym}
use Rattle.fx_ast.specs.Shape.{tree_of}
use Rattle.fx_values.specs.Shape.{val}
use Rattle.fx_rowfn.specs.Calls.{pipes_left}
use Rattle.fx_rowfn.specs.State.{Leads, scope_of, trees_from}
use Rattle.fx_rowfn.proofs.PipeLaws.{no_call}
use Rattle.fx_rowfn.proofs.pipes.calls_from.Goals as goal

pub returns-in-Some : goal.returns-in-Some
returns-in-Some c = λ test.
    subst (λ es. Leads (pipes_left test (scope_of c.args.scope) es (val c.args.input)) test c.call_first.result) (sym c.in-Some.ensures.at) (c.call_first.ensures test)

pub returns-in-None : goal.returns-in-None
returns-in-None c = λ test limit fs.
    no_call test limit fs (scope_of c.args.scope) (trees_from (tree_of c.args.whole.now) c.args.next) (val c.args.input) c.in-None.ensures.at
