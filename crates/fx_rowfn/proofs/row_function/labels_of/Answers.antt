use Rattle.std.proofs.Common.{◌≡◌, IfOk, map, subst, sym, ap, ◌∙◌}
use Rattle.fx_ast.specs.Shape.{param, params_of}
use Rattle.fx_meaning.specs.Rows.{due}
use Rattle.fx_values.proofs.ValueLaws.{closed_is}
use Rattle.fx_rowfn.proofs.row_function.labels_of.Goals as goal

pub returns : goal.returns
returns c =
    subst (λ told. IfOk c.due_labels.result (λ labels. labels ≡ told))
    (ap (λ ps. due (params_of (map param ps))) c.as_slice.ensures ∙ sym (ap (λ o. due o.params) (closed_is c.args.closure.now))) c.due_labels.ensures
