use Rattle.std.proofs.Common.{refl}
use Rattle.std.specs.Prelude.{codes}
use Rattle.fx_schemes.specs.Given.{texts_of}
use Rattle.fx_schemes.specs.Plan.{params_of}
use Rattle.fx_schemes.specs.Scheme.{shown}
use Rattle.fx_schemes.proofs.Results.{along}
use Rattle.fx_schemes.proofs.SchemeLaws.{same_piped}
use Rattle.fx_schemes.proofs.rows.rows_to_rows.Goals as goal

pub returns : goal.returns
returns c =
    along shown c.piped.result _ _
    (same_piped (codes "tables") (texts_of c.args.plan.now.labels.now) (params_of c.args.plan.now.optional.now) c.args.plan.now.variables
    _ _ _ _ _ _ c.in_ok-input.ensures refl c.in_ok-gives.ensures)
    c.piped.ensures
