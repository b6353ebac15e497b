use Rattle.std.proofs.Common.{◌∙◌, ◌+◌, ap, sym, subst, take}
use Rattle.std.specs.Option.{option_copied}
use Rattle.fx_unify.specs.Solutions.{next_of}
use Rattle.fx_infer.specs.Calls.{AreSplit}
use Rattle.fx_infer.proofs.DivideLaws.{divide_free, divide_due, at_most}
use Rattle.fx_infer.proofs.calls.divide.Goals as goal
use Rattle.fx_infer.proofs.calls.divide.Goals.{in-Some+in_ok-asked-in-Some, in-None+in_ok-label-in-None+in_ok-ty-in-None+in_ok-push-in-None}

pub loop-arg-preserved : goal.loop-arg-preserved
loop-arg-preserved c = elim c.match-find_entry.branch [
  | in-Some+in_ok-asked-in-Some w ↦
      subst (AreSplit c.args.bindings (take (c.loop-arg.arg-index + 1) c.args.args.now) c.args.optional.now c.match-find_entry.asked) (sym w.needs-is)
      (subst (λ b. AreSplit c.args.bindings (take (c.loop-arg.arg-index + 1) c.args.args.now) c.args.optional.now b c.loop-arg.needs) (sym w.asked-is)
      (divide_free c.args.bindings c.loop-arg.asked w.in_ok-asked-in-Some.asked c.args.args.now c.args.optional.now c.loop-arg.needs c.loop-arg.arg-index c.arg-item.result c.loop-arg-test.true c.arg-item.is c.requires
      c.loop-arg.invariant w.in-Some.entry.now (sym c.find_entry.ensures ∙ ap option_copied w.in-Some.is) w.in_ok-asked-in-Some.ensures.ok
      (at_most (next_of c.loop-arg.asked) (next_of w.in_ok-asked-in-Some.asked) _ w.in_ok-asked-in-Some.ensures.next)))
  | in-None+in_ok-label-in-None+in_ok-ty-in-None+in_ok-push-in-None w ↦
      divide_due c.args.bindings c.loop-arg.asked c.match-find_entry.asked c.args.args.now c.args.optional.now c.loop-arg.needs c.loop-arg.arg-index c.arg-item.result c.loop-arg-test.true c.arg-item.is c.requires
      c.loop-arg.invariant c.match-find_entry.needs (record { label = w.in_ok-label-in-None.label; ty = w.in_ok-ty-in-None.ty }) (sym c.find_entry.ensures ∙ ap option_copied w.in-None.is)
      (w.needs-is ∙ w.in_ok-push-in-None.ensures.ok) w.in_ok-label-in-None.ensures w.in_ok-ty-in-None.ensures w.asked-is
]
