use Rattle.std.proofs.Common.{ap}
use Rattle.fx_types.specs.Shape.{label_term}
use Rattle.fx_schemes.specs.Plan.{labelled}
use Rattle.fx_schemes.proofs.Results.{along}
use Rattle.fx_schemes.proofs.terms.record_param.Goals as goal

pub returns : goal.returns
returns c = along label_term c.param.result _ _ (ap (labelled c.args.label.now) c.in_ok-record_over.ensures) c.param.ensures
