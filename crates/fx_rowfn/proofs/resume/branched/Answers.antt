use Rattle.std.proofs.Common.{sym, ap, ◌∙◌}
use Rattle.std.specs.Prelude.{if◌then◌else◌}
use Rattle.fx_ast.specs.Shape.{tree_of}
use Rattle.fx_meaning.specs.Forms.{truth_in}
use Rattle.fx_meaning.specs.Meaning.{means}
use Rattle.fx_values.specs.Shape.{val}
use Rattle.fx_rowfn.specs.Frame.{calls_above}
use Rattle.fx_rowfn.specs.State.{scope_of, tree_left}
use Rattle.fx_rowfn.proofs.ResumeLaws.{branch_leads, stop_leads}
use Rattle.fx_rowfn.proofs.resume.branched.Goals as goal

pub returns-in-Ok : goal.returns-in-Ok
returns-in-Ok c = λ test limit fs.
    branch_leads test limit fs (scope_of c.args.scope) c.args.yes c.args.no (val c.args.value.now) c.in-Ok.holds c.in-Ok.ensures
    ∙ ap (λ e. tree_left test (scope_of c.args.scope) (tree_of e) limit fs) (sym c.chosen.ensures)

pub returns-in-Err : goal.returns-in-Err
returns-in-Err c = λ test.
    stop_leads test (λ b. b) (truth_in (val c.args.value.now))
    (λ limit fs holds.
    if holds then means test (calls_above test limit fs) (scope_of c.args.scope).setting (tree_of c.args.yes) (scope_of c.args.scope).env
    else means test (calls_above test limit fs) (scope_of c.args.scope).setting (tree_of c.args.no) (scope_of c.args.scope).env)
    c.in-Err.stop c.in-Err.ensures
