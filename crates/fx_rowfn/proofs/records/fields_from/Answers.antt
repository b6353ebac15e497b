use Rattle.std.proofs.Common.{◌+◌, ◌∷◌, map, ap, subst, sym, ◌∙◌}
use Rattle.fx_ast.proofs.ShapeLaws.{prop_is}
use Rattle.fx_ast.specs.Shape.{tree_of}
use Rattle.fx_ast.specs.Tree.{more_props}
use Rattle.fx_meaning.specs.Ends.{pure}
use Rattle.fx_meaning.specs.Value.{rec}
use Rattle.fx_values.specs.Shape.{slot, slots_of}
use Rattle.fx_rowfn.specs.State.{Leads, fields_left, left, left_then, props_from, scope_of}
use Rattle.fx_rowfn.specs.declared.frame.Control.TheVariants as control
use Rattle.fx_rowfn.proofs.FrameLaws.{field_left}
use Rattle.fx_rowfn.proofs.records.fields_from.Goals as goal

pub returns-in_ok-next-in-Some : goal.returns-in_ok-next-in-Some
returns-in_ok-next-in-Some c = λ test limit fs.
    let done = slots_of (map slot c.args.done) in
    let p = c.in-Some.prop.now in
    let rest = props_from (tree_of c.args.whole.now) (c.args.next + 1) in
    ap (λ ps. fields_left test (scope_of c.args.scope) ps done limit fs) (c.in-Some.ensures.at ∙ ap (λ o. more_props o.label o.value rest) (prop_is p))
    ∙ field_left test limit fs (scope_of c.args.scope) done p.label (tree_of p.value) rest
    ∙ sym (ap (left_then test limit fs) c.in_ok-next-in-Some.ensures ∙ ap (λ f. left test limit (f ∷ fs) (control.Eval c.args.scope p.value)) c.in_ok-frame-in-Some.ensures)

pub returns-in-None : goal.returns-in-None
returns-in-None c = λ test.
    let done = slots_of (map slot c.args.done) in
    subst (λ ps. Leads (fields_left test (scope_of c.args.scope) ps done) test c.given.result) (sym c.in-None.ensures.at)
    (c.given.ensures test (pure (rec done)) c.record_of.ensures)
