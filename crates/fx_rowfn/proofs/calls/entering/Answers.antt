use Rattle.std.proofs.Common.{map, sym, ap, ◌∙◌}
use Rattle.fx_meaning.specs.Meaning.{takes}
use Rattle.fx_values.specs.Shape.{closed, closure_val, slot, slots_of}
use Rattle.fx_rowfn.specs.Calls.{applied_left, enters_left}
use Rattle.fx_rowfn.proofs.CallLaws.{accepted, refused}
use Rattle.fx_rowfn.proofs.StepLaws.{leads_along}
use Rattle.fx_rowfn.proofs.calls.entering.Goals as goal

pub returns-then-not-are_taken : goal.returns-then-not-are_taken
returns-then-not-are_taken c = λ test place moment.
    refused test place moment (slots_of (map slot c.args.args)) (closed c.args.closure.now.value)
    (ap (λ ss. takes (closed c.args.closure.now.value).params (slots_of (map slot ss))) (sym c.as_slice.ensures)
    ∙ ap (λ k. takes (closed k).params (slots_of (map slot c.as_slice.result.now))) (sym c.as_ref.ensures) ∙ sym c.are_taken.ensures ∙ c.if-not-are_taken.true)

pub returns : goal.returns
returns c = λ test place moment.
    let k = closed c.args.closure.now.value in
    let args = slots_of (map slot c.args.args) in
    leads_along (applied_left test place moment args (closure_val k)) (enters_left test k args) test c.entered.result
    (accepted test place moment args k
    (ap (λ ss. takes k.params (slots_of (map slot ss))) (sym c.as_slice.ensures)
    ∙ ap (λ q. takes (closed q).params (slots_of (map slot c.as_slice.result.now))) (sym c.as_ref.ensures) ∙ sym c.are_taken.ensures ∙ c.if-not-are_taken.false))
    (c.entered.ensures test)
