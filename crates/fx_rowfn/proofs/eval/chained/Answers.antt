use Rattle.std.proofs.Common.{sym, ap, ◌∷◌, ◌∙◌}
use Rattle.fx_ast.specs.Shape.{tree_of}
use Rattle.fx_rowfn.specs.State.{left, left_then, links_from, scope_of}
use Rattle.fx_rowfn.specs.declared.frame.Control.TheVariants as control
use Rattle.fx_rowfn.proofs.FrameLaws.{chain_left}
use Rattle.fx_rowfn.proofs.eval.chained.Goals as goal

pub returns : goal.returns
returns c = λ test limit fs.
    chain_left test limit fs (scope_of c.args.scope) c.args.whole.now.place (tree_of c.args.first.now) (links_from (tree_of c.args.whole.now) 0)
    ∙ sym (ap (left_then test limit fs) c.in_ok-next.ensures ∙ ap (λ p. left test limit (p ∷ fs) (control.Eval c.args.scope c.args.first.now)) c.in_ok-frame.ensures)
