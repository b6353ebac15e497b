use Rattle.std.proofs.Common.{ap, ◌∙◌}
use Rattle.fx_ast.proofs.ShapeLaws.{body_is}
use Rattle.fx_ast.specs.declared.expr.Node.TheViews.{out-Body}
use Rattle.fx_values.specs.declared.value.Value.TheViews.{out-Closure}
use Rattle.fx_values.proofs.ValueLaws.{closed_is}
use Rattle.fx_rowfn.proofs.EnterLaws.{lets_at}
use Rattle.fx_rowfn.proofs.enter.let_at.Goals as goal

pub returns-clause-at : goal.returns-clause-at
returns-clause-at c =
    let h = c.get.ensures.lookup in
    let b = (out-Closure c.args.closure.now).body in
    lets_at c.args.closure.now (out-Body b).lets c.as_slice.result.now c.args.place c.get.result (ap (λ o. o.lets) (closed_is c.args.closure.now) ∙ ap (λ o. o.lets) (body_is b)) c.as_slice.ensures h.1 h.3
