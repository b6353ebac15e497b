use Rattle.std.proofs.Common.{map, sym, ◌∙◌}
use Rattle.fx_values.specs.Shape.{slot, slots_of, val}
use Rattle.fx_rowfn.specs.Calls.{piped_by_left, piped_left}
use Rattle.fx_rowfn.proofs.PipeLaws.{no_pipe, some_pipe}
use Rattle.fx_rowfn.proofs.StepLaws.{leads_along}
use Rattle.fx_rowfn.proofs.pipes.piped_to.Goals as goal

pub returns-in-Some : goal.returns-in-Some
returns-in-Some c = λ test.
    let args = slots_of (map slot c.args.args) in
    let moment = c.args.setting.now.moment in
    leads_along (piped_left test c.args.place moment args (val c.args.of.input) (val c.args.of.callee)) (piped_by_left test c.args.place moment args (val c.args.of.input) c.in-Some.label (val c.args.of.callee)) test c.piped_by.result
    (some_pipe test c.args.place moment args (val c.args.of.input) (val c.args.of.callee) c.in-Some.label (sym c.in_ok-found.ensures ∙ c.in-Some.is)) (c.piped_by.ensures test)

pub returns-in-None : goal.returns-in-None
returns-in-None c = λ test.
    no_pipe test c.args.place c.args.setting.now.moment (slots_of (map slot c.args.args)) (val c.args.of.input) (val c.args.of.callee) (sym c.in_ok-found.ensures ∙ c.in-None.is)
