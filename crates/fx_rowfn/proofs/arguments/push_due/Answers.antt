use Rattle.std.proofs.Common.{[], ◌∷◌, ◌++◌, sym, ap, ◌∙◌}
use Rattle.fx_ast.proofs.ShapeLaws.{param_is}
use Rattle.fx_ast.specs.Shape.{param}
use Rattle.fx_rowfn.proofs.ArgumentLaws.{due_there}
use Rattle.fx_rowfn.proofs.arguments.push_due.Goals as goal

pub returns-in_ok-push : goal.returns-in_ok-push
returns-in_ok-push c =
    let p = param c.args.of.now in
    let before = c.args.labels.now in
    c.in_ok-push.ensures.ok ∙ ap (λ x. before ++ x ∷ []) (c.in_ok-copy.ensures ∙ sym (ap (λ o. o.label) (param_is c.args.of.now)))
    ∙ ap (λ l. before ++ l) (sym (due_there p.label p.default (sym c.is_due.ensures ∙ c.if-is_due.true)))
