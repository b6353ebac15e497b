use Rattle.std.proofs.Common.{sym, ap}
use Rattle.fx_values.specs.Shape.{closed}
use Rattle.fx_rowfn.specs.Calls.{params_left}
use Rattle.fx_rowfn.specs.State.{args_of, bound_left}
use Rattle.fx_rowfn.proofs.enter.bound.Goals as goal

pub returns : goal.returns
returns c = λ test limit fs.
    let e = c.args.entry in
    let k = closed e.closure.value in
    ap (λ s. bound_left test limit fs s (params_left e) k.captured (args_of e) k.lets k.result) (sym c.in_ok-scope.ensures)
