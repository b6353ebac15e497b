use Rattle.std.proofs.Common.{sym, ap}
use Rattle.fx_values.specs.Shape.{closed}
use Rattle.fx_rowfn.specs.Calls.{lets_left}
use Rattle.fx_rowfn.specs.State.{assigns_left}
use Rattle.fx_rowfn.proofs.enter.assigned.Goals as goal

pub returns : goal.returns
returns c = λ test limit fs.
    let e = c.args.entry in
    ap (λ s. assigns_left test limit fs s (lets_left e) (closed e.closure.value).result) (sym c.in_ok-scope.ensures)
