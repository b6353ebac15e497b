use Rattle.std.proofs.Common.{◌∙◌, ◌+◌, sym, subst, take}
use Rattle.fx_base.specs.Text.{same_text}
use Rattle.fx_infer.proofs.DivideLaws.{WithoutSame, without_more, without_same, is_not, is_so}
use Rattle.fx_infer.proofs.calls.without.Goals as goal
use Rattle.fx_infer.proofs.calls.without.Goals.{then-ne+in_ok-label+in_ok-ty+in_ok-push, else-ne}

pub loop-entry-preserved : goal.loop-entry-preserved
loop-entry-preserved c = elim c.if-ne.branch [
  | then-ne+in_ok-label+in_ok-ty+in_ok-push w ↦
      without_more c.args.label.now c.args.entries.now c.loop-entry.others c.if-ne.others c.loop-entry.entry-index c.entry-item.result (record { label = w.in_ok-label.label; ty = w.in_ok-ty.ty }) c.loop-entry-test.true c.entry-item.is
      (is_not (same_text c.args.label.now c.entry-item.result.label) (sym w.if-ne.ensures)) (w.others-is ∙ w.in_ok-push.ensures.ok) w.in_ok-label.ensures w.in_ok-ty.ensures c.loop-entry.invariant
  | else-ne w ↦
      subst (WithoutSame c.args.label.now (take (c.loop-entry.entry-index + 1) c.args.entries.now)) (sym w.others-is)
      (without_same c.args.label.now c.args.entries.now c.loop-entry.others c.loop-entry.entry-index c.entry-item.result c.loop-entry-test.true c.entry-item.is
      (is_so (same_text c.args.label.now c.entry-item.result.label) (sym w.if-ne.ensures)) c.loop-entry.invariant)
]
