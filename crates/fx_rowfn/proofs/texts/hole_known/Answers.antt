use Rattle.std.proofs.Common.{ap, refl, sym, ◌∙◌}
use Rattle.std.specs.Prelude.{option_map}
use Rattle.std.specs.String.{string_bytes}
use Rattle.fx_ast.specs.Shape.{tree_of}
use Rattle.fx_meaning.specs.Forms.{cell_in}
use Rattle.fx_meaning.specs.Meaning.{means_parts}
use Rattle.fx_meaning.specs.Operators.{behind, printed, text_made}
use Rattle.fx_value.specs.Ends.{and_then}
use Rattle.fx_value.specs.declared.scalar.Scalar.{Scalar}
use Rattle.fx_values.specs.Shape.{val}
use Rattle.fx_rowfn.specs.Frame as plain
use Rattle.fx_rowfn.specs.Frame.{calls_above, unwound}
use Rattle.fx_rowfn.specs.State.{parts_from, parts_left, resumed_left, scope_of}
use Rattle.fx_rowfn.proofs.StepLaws.{leads_along, stop_ends}
use Rattle.fx_rowfn.proofs.TextLaws.{told_left}
use Rattle.fx_rowfn.proofs.texts.hole_known.Goals as goal

pub returns-in_ok-before-in-Ok : goal.returns-in_ok-before-in-Ok
returns-in_ok-before-in-Ok c = λ test.
    let scope = scope_of c.args.scope in
    let before = option_map string_bytes c.args.before in
    let rest = parts_from (tree_of c.args.whole.now) c.args.next in
    leads_along (resumed_left test (plain.hole scope c.args.place before rest) (val c.args.value.now))
    (parts_left test scope c.args.place rest (option_map string_bytes c.in_ok-before-in-Ok.before)) test c.parts_on.result
    (λ limit fs.
    told_left test limit fs scope c.args.place before rest (val c.args.value.now) c.in-Ok.a.now c.in-Ok.ensures
    ∙ ap (λ b. parts_left test scope c.args.place rest b limit fs) (sym c.in_ok-before-in-Ok.ensures))
    (c.parts_on.ensures test)

pub returns-in-Err : goal.returns-in-Err
returns-in-Err c = λ test.
    let scope = scope_of c.args.scope in
    let before = option_map string_bytes c.args.before in
    let rest = parts_from (tree_of c.args.whole.now) c.args.next in
    stop_ends test (λ (a : Scalar). a) (cell_in (val c.args.value.now))
    (λ e limit fs. and_then (and_then (and_then e (λ a. means_parts test (calls_above test limit fs) scope.setting rest scope.env (behind before (printed a)))) (text_made c.args.place)) (unwound test limit fs))
    c.in-Err.stop c.in-Err.ensures (λ fault limit fs. refl) (λ limit fs. refl)
