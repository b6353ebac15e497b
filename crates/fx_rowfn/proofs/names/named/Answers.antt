use Rattle.fx_meaning.specs.Ends.{found}
use Rattle.fx_meaning.specs.Meaning.{named}
use Rattle.fx_rowfn.specs.State.{scope_of}
use Rattle.fx_rowfn.proofs.names.named.Goals as goal

pub returns : goal.returns
returns c = λ test. c.given.ensures test (found (named c.args.label.now (scope_of c.args.scope.now).env)) c.name_value.ensures
