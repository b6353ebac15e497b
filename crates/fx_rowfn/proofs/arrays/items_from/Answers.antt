use Rattle.std.proofs.Common.{◌+◌, ◌∷◌, map, ap, subst, sym, ◌∙◌}
use Rattle.fx_ast.specs.Shape.{tree_of}
use Rattle.fx_meaning.specs.Ends.{pure}
use Rattle.fx_meaning.specs.Value.{array}
use Rattle.fx_values.specs.Shape.{val, vals_of}
use Rattle.fx_rowfn.specs.State.{Leads, items_left, left, left_then, scope_of, trees_from}
use Rattle.fx_rowfn.specs.declared.frame.Control.TheVariants as control
use Rattle.fx_rowfn.proofs.FrameLaws.{item_left}
use Rattle.fx_rowfn.proofs.arrays.items_from.Goals as goal

pub returns-in_ok-next-in-Some : goal.returns-in_ok-next-in-Some
returns-in_ok-next-in-Some c = λ test limit fs.
    let done = vals_of (map val c.args.done) in
    let e = c.in-Some.expr.now in
    ap (λ es. items_left test (scope_of c.args.scope) es done limit fs) c.in-Some.ensures.at
    ∙ item_left test limit fs (scope_of c.args.scope) done (tree_of e) (trees_from (tree_of c.args.whole.now) (c.args.next + 1))
    ∙ sym (ap (left_then test limit fs) c.in_ok-next-in-Some.ensures ∙ ap (λ p. left test limit (p ∷ fs) (control.Eval c.args.scope e)) c.in_ok-frame-in-Some.ensures)

pub returns-in-None : goal.returns-in-None
returns-in-None c = λ test.
    let done = vals_of (map val c.args.done) in
    subst (λ es. Leads (items_left test (scope_of c.args.scope) es done) test c.given.result) (sym c.in-None.ensures.at)
    (c.given.ensures test (pure (array done)) c.array_of.ensures)
