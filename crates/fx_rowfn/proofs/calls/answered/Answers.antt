use Rattle.std.proofs.Common.{map, rules, subst, sym, ◌∙◌}
use mir.Syntax.{w64}
use mir.Val.{SFits}
use Rattle.std.proofs.lemmas.Int.{to_z-of_z}
use Rattle.fx_meaning.specs.Natives.{native_call}
use Rattle.fx_meaning.specs.Value.{native}
use Rattle.fx_value.specs.Ends.{and_then}
use Rattle.fx_values.specs.Shape.{slot, slots_of, val}
use Rattle.fx_values.specs.Told.{Tells}
use Rattle.fx_rowfn.specs.Calls.{applied_left}
use Rattle.fx_rowfn.specs.Frame.{unwound}
use Rattle.fx_rowfn.proofs.CallLaws.{native_accepted, native_refused}
use Rattle.fx_rowfn.proofs.StepLaws.{leads_along}
use Rattle.fx_rowfn.proofs.calls.answered.Goals as goal

pub returns-then-not-takes_native : goal.returns-then-not-takes_native
returns-then-not-takes_native c = λ test.
    native_refused test c.args.place c.args.setting.now.moment (slots_of (map slot c.args.args.now)) c.args.which (sym c.takes_native.ensures ∙ c.if-not-takes_native.true)

pub returns : goal.returns
returns c = λ test.
    let args = slots_of (map slot c.args.args.now) in
    let moment = c.args.setting.now.moment in
    let fits : SFits w64 c.args.setting.now.moment = search rules in
    leads_along (applied_left test c.args.place moment args (native c.args.which)) (λ limit fs. and_then (native_call c.args.place moment args c.args.which) (unwound test limit fs)) test c.given.result
    (native_accepted test c.args.place moment args c.args.which (sym c.takes_native.ensures ∙ c.if-not-takes_native.false))
    (c.given.ensures test (native_call c.args.place moment args c.args.which) (subst (λ m. Tells val (native_call c.args.place m args c.args.which) c.native_call.result) (to_z-of_z w64 moment fits) c.native_call.ensures))
