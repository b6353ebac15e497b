use Rattle.std.proofs.Common.{map}
use Rattle.fx_ast.specs.Free.{free_fun, name_of}
use Rattle.fx_ast.specs.Shape.{body, param, params_of}
use Rattle.fx_meaning.specs.Ends.{pure}
use Rattle.fx_meaning.specs.Value.{closure, keep}
use Rattle.fx_rowfn.specs.State.{scope_of}
use Rattle.fx_rowfn.proofs.functions.function.Goals as goal

pub returns : goal.returns
returns c = λ test.
    let params = params_of (map param c.args.params.now) in
    let k = body c.args.of.now in
    let scope = scope_of c.args.scope.now in
    c.given.ensures test (pure (closure params k.lets k.result (keep (λ x. free_fun params k.lets k.result (name_of x)) scope.env) scope.setting)) c.closed.ensures
