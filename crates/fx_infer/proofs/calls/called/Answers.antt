use Rattle.std.proofs.Common.{◌≡◌, ◌∙◌, ap, sym, subst, None, Some}
use Rattle.std.specs.Option.{option_copied}
use Rattle.std.specs.Prelude.{option_map}
use Rattle.fx_types.specs.Shape.{term, pipe_of}
use Rattle.fx_unify.specs.Solutions.{next_of}
use Rattle.fx_infer.specs.Calls.{AreSplit, entry_of}
use Rattle.fx_infer.specs.Infers.{AreBelow}
use Rattle.fx_infer.specs.Lists.{labels_in}
use Rattle.fx_infer.proofs.CalledLaws.{mid_below, piped_called, plain_called, label_missing, label_below, label_called}
use Rattle.fx_infer.proofs.DivideLaws.{WithoutSame}
use Rattle.fx_infer.proofs.calls.called.Goals as goal

pub result_of-requires-clause-given : goal.result_of-requires-clause-given
result_of-requires-clause-given c =
    mid_below c.args.bindings c.in_ok-divided.divided.bindings c.args.line.now c.args.args.now c.in_ok-divided.divided.needs c.requires.apart c.requires.line c.requires.optional
    (subst (λ os. AreSplit c.args.bindings c.args.args.now os c.in_ok-divided.divided.bindings c.in_ok-divided.divided.needs) c.as_slice.ensures c.in_ok-divided.ensures)
    (Some c.in-Some.input) (subst (λ p. AreBelow (next_of c.args.bindings) (labels_in c.args.args.now) (pipe_of (option_map term p))) c.in-Some.is c.requires.given)

pub returns-in-Some : goal.returns-in-Some
returns-in-Some c =
    piped_called c.args.bindings c.in_ok-divided.divided.bindings c.args.line.now c.args.args.now c.in_ok-divided.divided.needs c.requires.apart c.requires.line c.requires.optional
    (subst (λ os. AreSplit c.args.bindings c.args.args.now os c.in_ok-divided.divided.bindings c.in_ok-divided.divided.needs) c.as_slice.ensures c.in_ok-divided.ensures)
    c.args.pipe c.in-Some.input c.in-Some.is c.requires.given c.in_ok-result_of.field-0.bindings _ c.in_ok-result_of.ensures

pub result_of-requires-in-None-clause-given : goal.result_of-requires-in-None-clause-given
result_of-requires-in-None-clause-given c =
    mid_below c.args.bindings c.in_ok-divided.divided.bindings c.args.line.now c.args.args.now c.in_ok-divided.divided.needs c.requires.apart c.requires.line c.requires.optional
    (subst (λ os. AreSplit c.args.bindings c.args.args.now os c.in_ok-divided.divided.bindings c.in_ok-divided.divided.needs) c.as_slice.ensures c.in_ok-divided.ensures)
    None (subst (λ p. AreBelow (next_of c.args.bindings) (labels_in c.args.args.now) (pipe_of (option_map term p))) c.in_default.is c.requires.given)

pub returns-in-None : goal.returns-in-None
returns-in-None c =
    plain_called c.args.bindings c.in_ok-divided.divided.bindings c.args.line.now c.args.args.now c.in_ok-divided.divided.needs c.requires.apart c.requires.line c.requires.optional
    (subst (λ os. AreSplit c.args.bindings c.args.args.now os c.in_ok-divided.divided.bindings c.in_ok-divided.divided.needs) c.as_slice.ensures c.in_ok-divided.ensures)
    c.args.pipe c.in_default.is c.in-None.is c.requires.given c.in_ok-result_of-in-None.field-0.bindings _ c.in_ok-result_of-in-None.ensures

pub returns-in-None-find_entry : goal.returns-in-None-find_entry
returns-in-None-find_entry c =
    label_missing c.args.bindings c.in_ok-divided.divided.bindings c.args.line.now c.args.args.now c.in_ok-divided.divided.needs c.requires.apart c.requires.line c.requires.optional
    (subst (λ os. AreSplit c.args.bindings c.args.args.now os c.in_ok-divided.divided.bindings c.in_ok-divided.divided.needs) c.as_slice.ensures c.in_ok-divided.ensures)
    c.args.pipe c.in_default.is c.in-Some-pipe_label.label c.in-Some-pipe_label.is c.requires.given
    (subst (λ es. entry_of c.in-Some-pipe_label.label es ≡ None) c.as_slice-2.ensures (sym c.find_entry.ensures ∙ ap option_copied c.in-None-find_entry.is))

pub result_of-requires-2-clause-given : goal.result_of-requires-2-clause-given
result_of-requires-2-clause-given c =
    label_below c.args.bindings c.in_ok-divided.divided.bindings c.args.line.now c.args.args.now c.in_ok-divided.divided.needs c.requires.apart c.requires.line c.requires.optional
    (subst (λ os. AreSplit c.args.bindings c.args.args.now os c.in_ok-divided.divided.bindings c.in_ok-divided.divided.needs) c.as_slice.ensures c.in_ok-divided.ensures)
    c.args.pipe c.in_default.is c.in-Some-pipe_label.label c.in-Some-pipe_label.is c.requires.given c.in-Some-find_entry.entry.now c.in_ok-input-in-Some-find_entry.input c.in_ok-others.others
    (subst (λ es. entry_of c.in-Some-pipe_label.label es ≡ Some c.in-Some-find_entry.entry.now) c.as_slice-2.ensures (sym c.find_entry.ensures ∙ ap option_copied c.in-Some-find_entry.is))
    c.in_ok-input-in-Some-find_entry.ensures
    (subst (λ es. WithoutSame c.in-Some-pipe_label.label es c.in_ok-others.others) c.as_slice-3.ensures c.in_ok-others.ensures)

pub returns : goal.returns
returns c =
    label_called c.args.bindings c.in_ok-divided.divided.bindings c.args.line.now c.args.args.now c.in_ok-divided.divided.needs c.requires.apart c.requires.line c.requires.optional
    (subst (λ os. AreSplit c.args.bindings c.args.args.now os c.in_ok-divided.divided.bindings c.in_ok-divided.divided.needs) c.as_slice.ensures c.in_ok-divided.ensures)
    c.args.pipe c.in_default.is c.in-Some-pipe_label.label c.in-Some-pipe_label.is c.requires.given c.in-Some-find_entry.entry.now c.in_ok-input-in-Some-find_entry.input c.in_ok-others.others
    (subst (λ es. entry_of c.in-Some-pipe_label.label es ≡ Some c.in-Some-find_entry.entry.now) c.as_slice-2.ensures (sym c.find_entry.ensures ∙ ap option_copied c.in-Some-find_entry.is))
    c.in_ok-input-in-Some-find_entry.ensures
    (subst (λ es. WithoutSame c.in-Some-pipe_label.label es c.in_ok-others.others) c.as_slice-3.ensures c.in_ok-others.ensures)
    c.in_ok-result_of-2.field-0.bindings _ c.in_ok-result_of-2.ensures
