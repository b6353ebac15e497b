use Rattle.std.proofs.Common.{map, ap, refl, subst, ◌∙◌}
use Rattle.fx_ast.specs.Shape.{tree_of}
use Rattle.fx_meaning.specs.Ends.{pure}
use Rattle.fx_meaning.specs.Meaning.{means_props}
use Rattle.fx_meaning.specs.Value.{rec}
use Rattle.fx_value.proofs.Ends.{later-zero}
use Rattle.fx_value.specs.Ends.{and_then}
use Rattle.fx_values.specs.Shape.{slot, slots_of}
use Rattle.fx_values.specs.Told.{Tells}
use Rattle.fx_values.specs.declared.value.Slot.{Slot}
use Rattle.std.specs.Prelude.{List, Ok}
use Rattle.fx_rowfn.specs.Frame.{calls_above, unwound}
use Rattle.fx_rowfn.specs.State.{fields_left, props_from, scope_of}
use Rattle.fx_rowfn.proofs.StepLaws.{leads_along, stop_ends}
use Rattle.fx_rowfn.proofs.records.fields_on.Goals as goal

pub returns-in-Ok : goal.returns-in-Ok
returns-in-Ok c = λ test end told.
    let scope = scope_of c.args.scope in
    let ps = props_from (tree_of c.args.whole.now) 0 in
    let done = slots_of (map slot c.in-Ok.fields) in
    let shown : Tells (λ (fields : List Slot). slots_of (map slot fields)) end (Ok c.in-Ok.fields) = subst (Tells (λ (fields : List Slot). slots_of (map slot fields)) end) c.in-Ok.is told in
    leads_along
    (λ limit fs. and_then (and_then (and_then end (means_props test (calls_above test limit fs) scope.setting ps scope.env)) (λ fields. pure (rec fields))) (unwound test limit fs))
    (fields_left test scope ps done) test c.fields_from.result
    (λ limit fs.
    ap (λ e. and_then (and_then (and_then e (means_props test (calls_above test limit fs) scope.setting ps scope.env)) (λ fields. pure (rec fields))) (unwound test limit fs)) shown
    ∙ ap (λ e. and_then (and_then e (λ fields. pure (rec fields))) (unwound test limit fs)) (later-zero (means_props test (calls_above test limit fs) scope.setting ps scope.env done)))
    (c.fields_from.ensures test)

pub returns-in-Err : goal.returns-in-Err
returns-in-Err c = λ test end told.
    let scope = scope_of c.args.scope in
    let ps = props_from (tree_of c.args.whole.now) 0 in
    stop_ends test (λ (fields : List Slot). slots_of (map slot fields)) end
    (λ e limit fs. and_then (and_then (and_then e (means_props test (calls_above test limit fs) scope.setting ps scope.env)) (λ fields. pure (rec fields))) (unwound test limit fs))
    c.in-Err.stop (subst (Tells (λ (fields : List Slot). slots_of (map slot fields)) end) c.in-Err.is told) (λ fault limit fs. refl) (λ limit fs. refl)
