use Rattle.std.proofs.Common.{◌+◌, ◌∷◌, ap, sym, ◌∙◌}
use Rattle.fx_ast.specs.Shape.{tree_of}
use Rattle.fx_value.specs.Ends.{and_then}
use Rattle.fx_values.specs.Shape.{val}
use Rattle.fx_rowfn.specs.Frame.{unwound}
use Rattle.fx_rowfn.specs.State.{left, left_then, links_from, scope_of}
use Rattle.fx_rowfn.specs.declared.frame.Control.TheVariants as control
use Rattle.fx_rowfn.proofs.FrameLaws.{decided_left, operand_left}
use Rattle.fx_rowfn.proofs.operators.one_linked.Goals as goal

pub returns-then-decides : goal.returns-then-decides
returns-then-decides c = λ test limit fs.
    let l = c.args.operator.now in
    ap (λ e. and_then e (unwound test limit fs))
    (decided_left test limit fs (scope_of c.args.scope) l.place l.op (tree_of l.right) (links_from (tree_of c.args.chain.now) (c.args.next + 1)) (val c.args.left) (sym c.decides.ensures ∙ c.if-decides.true))
    ∙ sym (ap (λ f. unwound test limit (f ∷ fs) (val c.args.left)) c.in_ok-frame.ensures)

pub returns : goal.returns
returns c = λ test limit fs.
    let l = c.args.operator.now in
    operand_left test limit fs (scope_of c.args.scope) l.place l.op (tree_of l.right) (links_from (tree_of c.args.chain.now) (c.args.next + 1)) (val c.args.left) (sym c.decides.ensures ∙ c.if-decides.false)
    ∙ sym (ap (left_then test limit fs) c.in_ok-next.ensures ∙ ap (λ p. left test limit (p ∷ fs) (control.Eval c.args.scope l.right)) c.in_ok-frame-2.ensures)
