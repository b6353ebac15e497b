use Rattle.std.proofs.Common.{subst}
use Rattle.fx_ast.specs.Shape.{tree_of}
use Rattle.fx_meaning.specs.Meaning.{means_links}
use Rattle.fx_value.specs.Ends.{and_then}
use Rattle.fx_values.specs.Shape.{val}
use Rattle.fx_values.specs.Told.{Tells}
use Rattle.fx_rowfn.specs.Frame.{calls_above, unwound}
use Rattle.fx_rowfn.specs.State.{links_from, scope_of}
use Rattle.fx_rowfn.proofs.OperatorLaws.{linked_lead}
use Rattle.fx_rowfn.proofs.StepLaws.{stop_ends}
use Rattle.fx_rowfn.proofs.operators.linked_on.Goals as goal
use Rattle.std.proofs.Common.{refl}

pub returns-in-Ok : goal.returns-in-Ok
returns-in-Ok c = λ test end told.
    linked_lead test (scope_of c.args.scope) (links_from (tree_of c.args.chain.now) c.args.next) end (val c.in-Ok.value) c.linked.result (subst (Tells val end) c.in-Ok.is told) (c.linked.ensures test)

pub returns-in-Err : goal.returns-in-Err
returns-in-Err c = λ test end told.
    let scope = scope_of c.args.scope in
    stop_ends test val end
    (λ e limit fs. and_then (and_then e (means_links test (calls_above test limit fs) scope.setting (links_from (tree_of c.args.chain.now) c.args.next) scope.env)) (unwound test limit fs))
    c.in-Err.stop (subst (Tells val end) c.in-Err.is told) (λ fault limit fs. refl) (λ limit fs. refl)
