use Rattle.std.proofs.Common.{map, subst, sym, ap, ◌∙◌}
use Rattle.fx_values.specs.Shape.{slot, slots_of, val}
use Rattle.fx_values.proofs.ValueLaws.{val_fun, val_native}
use Rattle.fx_rowfn.specs.Calls.{applied_left}
use Rattle.fx_rowfn.specs.State.{Leads}
use Rattle.fx_rowfn.proofs.CallLaws.{not_called}
use Rattle.fx_rowfn.proofs.calls.applied.Goals as goal

pub returns-in-Fun : goal.returns-in-Fun
returns-in-Fun c = λ test.
    subst (λ f. Leads (applied_left test c.args.place c.args.setting.now.moment (slots_of (map slot c.args.args)) f) test c.entering.result)
    (sym (ap val c.in-Fun.is ∙ val_fun c.in-Fun.closure)) (c.entering.ensures test c.args.place c.args.setting.now.moment)

pub returns-in-Native : goal.returns-in-Native
returns-in-Native c = λ test.
    subst (λ ss. Leads (applied_left test c.args.place c.args.setting.now.moment (slots_of (map slot ss)) (val c.args.callee.now)) test c.answered.result) c.as_slice.ensures
    (subst (λ f. Leads (applied_left test c.args.place c.args.setting.now.moment (slots_of (map slot c.as_slice.result.now)) f) test c.answered.result)
    (sym (ap val c.in-Native.is ∙ val_native c.in-Native.which)) (c.answered.ensures test))

pub returns-in_default : goal.returns-in_default
returns-in_default c = λ test.
    not_called test c.args.place c.args.setting.now.moment (slots_of (map slot c.args.args)) c.args.callee.now c.in_default.not-Fun c.in_default.not-Native
