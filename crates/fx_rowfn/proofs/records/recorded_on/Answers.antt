use Rattle.fx_meaning.specs.Ends.{found}
use Rattle.fx_meaning.specs.Forms.{fields_in}
use Rattle.fx_meaning.specs.Meaning.{named}
use Rattle.fx_value.specs.Ends.{and_then}
use Rattle.fx_rowfn.specs.State.{scope_of}
use Rattle.fx_rowfn.proofs.records.recorded_on.Goals as goal

pub returns : goal.returns
returns c = λ test. c.fields_on.ensures test (and_then (found (named c.args.base.now (scope_of c.args.scope).env)) fields_in) c.base_fields-fields.ensures
