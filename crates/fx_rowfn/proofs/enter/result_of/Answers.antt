use Rattle.std.proofs.Common.{sym, ap, ◌∙◌}
use Rattle.fx_ast.proofs.ShapeLaws.{body_is}
use Rattle.fx_ast.specs.Shape.{tree_of}
use Rattle.fx_values.specs.declared.value.Value.TheViews.{out-Closure}
use Rattle.fx_values.proofs.ValueLaws.{closed_is}
use Rattle.fx_rowfn.specs.State.{scope_of, tree_left}
use Rattle.fx_rowfn.proofs.enter.result_of.Goals as goal

pub returns : goal.returns
returns c = λ test limit fs.
    ap (λ t. tree_left test (scope_of c.args.scope) t limit fs)
    (ap (λ o. o.result) (closed_is c.args.closure.now) ∙ ap (λ o. o.result) (body_is (out-Closure c.args.closure.now).body) ∙ sym (ap tree_of c.in_ok-expr.ensures))
