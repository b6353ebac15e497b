use Rattle.std.proofs.Common.{map, subst, sym, ◌∙◌}
use Rattle.fx_meaning.specs.Value.{is_there, look, push}
use Rattle.fx_values.specs.Shape.{slot, slots_of, val}
use Rattle.fx_rowfn.specs.Calls.{applied_left, piped_by_left}
use Rattle.fx_rowfn.specs.State.{Leads}
use Rattle.fx_rowfn.proofs.PipeLaws.{given_once, given_twice}
use Rattle.fx_rowfn.proofs.StepLaws.{leads_along}
use Rattle.fx_rowfn.proofs.pipes.piped_by.Goals as goal

pub returns-then-is_given : goal.returns-then-is_given
returns-then-is_given c = λ test.
    given_twice test c.args.place c.args.setting.now.moment (slots_of (map slot c.args.args)) (val c.args.of.input) (val c.args.of.callee) c.args.label
    ((λ i. is_there (look (sym c.as_str.ensures i) (slots_of (map slot (sym c.as_slice.ensures i))))) ∙ sym c.is_given.ensures ∙ c.if-is_given.true)

pub returns : goal.returns
returns c = λ test.
    let args = slots_of (map slot c.args.args) in
    let moment = c.args.setting.now.moment in
    let input = val c.args.of.input in
    let callee = val c.args.of.callee in
    leads_along (piped_by_left test c.args.place moment args input c.args.label callee) (applied_left test c.args.place moment (push args c.args.label input) callee) test c.applied.result
    (given_once test c.args.place moment args input callee c.args.label
    ((λ i. is_there (look (sym c.as_str.ensures i) (slots_of (map slot (sym c.as_slice.ensures i))))) ∙ sym c.is_given.ensures ∙ c.if-is_given.false))
    (subst (λ more. Leads (applied_left test c.args.place moment more callee) test c.applied.result) c.in_ok-args.ensures (c.applied.ensures test))
