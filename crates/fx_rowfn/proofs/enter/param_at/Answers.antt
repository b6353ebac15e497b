use Rattle.std.proofs.Common.{ap}
use Rattle.fx_values.specs.declared.value.Value.TheViews.{out-Closure}
use Rattle.fx_values.proofs.ValueLaws.{closed_is}
use Rattle.fx_rowfn.proofs.EnterLaws.{params_at}
use Rattle.fx_rowfn.proofs.enter.param_at.Goals as goal

pub returns-clause-at : goal.returns-clause-at
returns-clause-at c =
    let h = c.get.ensures.lookup in
    params_at c.args.closure.now (out-Closure c.args.closure.now).params c.as_slice.result.now c.args.place c.get.result (ap (λ o. o.params) (closed_is c.args.closure.now)) c.as_slice.ensures h.1 h.3
