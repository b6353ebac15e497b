use Rattle.std.proofs.Common.{refl, ap, ◌∙◌}
use Rattle.std.specs.Prelude.{codes}
use Rattle.fx_schemes.specs.Given.{texts_of}
use Rattle.fx_schemes.specs.Plan.{cells_of, params_of, sides_function}
use Rattle.fx_schemes.specs.Scheme.{shown}
use Rattle.fx_schemes.proofs.Results.{along}
use Rattle.fx_schemes.proofs.SchemeLaws.{same_more, same_piped}
use Rattle.fx_schemes.proofs.joins.joined.Goals as goal

pub returns : goal.returns
returns c =
    along shown c.piped.result _ _
    (same_piped (codes "left") (texts_of c.args.plan.now.labels.now) (params_of c.args.plan.now.optional.now) c.args.plan.now.variables
    _ _ _ _ _ _ c.in_ok-left.ensures
    (c.in_ok-required.ensures
    ∙ same_more _ _ _ _ _ refl (c.in_ok-both.ensures ∙ ap (sides_function (cells_of c.args.cells.now)) c.in_ok-record_over.ensures))
    c.in_ok-gives.ensures)
    c.piped.ensures
