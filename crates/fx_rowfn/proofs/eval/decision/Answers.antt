use Rattle.std.proofs.Common.{sym, ap, ◌∷◌, ◌∙◌}
use Rattle.fx_ast.specs.Shape.{tree_of}
use Rattle.fx_rowfn.specs.State.{left, left_then, scope_of}
use Rattle.fx_rowfn.specs.declared.frame.Control.TheVariants as control
use Rattle.fx_rowfn.proofs.FrameLaws.{if_left}
use Rattle.fx_rowfn.proofs.eval.decision.Goals as goal

pub returns : goal.returns
returns c = λ test limit fs.
    if_left test limit fs (scope_of c.args.scope) c.args.place (tree_of c.args.test.now) (tree_of c.args.yes.now) (tree_of c.args.no.now)
    ∙ sym (ap (left_then test limit fs) c.in_ok-next.ensures ∙ ap (λ p. left test limit (p ∷ fs) (control.Eval c.args.scope c.args.test.now)) c.in_ok-frame.ensures)
