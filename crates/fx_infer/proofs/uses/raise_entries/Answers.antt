use Rattle.std.proofs.Common.{◌↔◌, ◌+◌, ◌≤◌, ◌^◌, ◌∙◌, ap, sym, subst, map, take, arith}
use Rattle.fx_types.specs.Instance.{Solution, ground}
use Rattle.fx_types.specs.Size.{IsType}
use Rattle.fx_unify.specs.Solutions.{Solves, next_of}
use Rattle.fx_infer.specs.Lists.{AreRaised}
use Rattle.fx_types.specs.Numbers.{numbers, numbers_labels}
use Rattle.fx_types.specs.Shape.{term, label_term, labels_of}
use Rattle.fx_types.proofs.RaiseLists.{label_numbers}
use Rattle.fx_infer.proofs.EntryLaws.{raised_more, raised_same, listed_from, unlisted_from}
use Rattle.fx_infer.proofs.uses.raise_entries.Goals as goal
use Rattle.fx_infer.proofs.uses.raise_entries.Goals.{then-not-has_entry+in_ok-ty+in_ok-asked+in_ok-label+in_ok-push, else-not-has_entry}

pub raised-requires : goal.raised-requires
raised-requires c =
    let le : numbers (term c.entry-item.result.ty) ≤ numbers_labels (labels_of (map label_term c.args.entries.now)) = label_numbers c.args.entries.now c.loop-entry.entry-index c.entry-item.result c.loop-entry-test.true c.entry-item.is in
    let room : numbers_labels (labels_of (map label_term c.args.entries.now)) + c.args.by ≤ 2 ^ 32 = c.requires in
    omega arith

pub loop-entry-preserved : goal.loop-entry-preserved
loop-entry-preserved c = elim c.if-not-has_entry.branch [
  | then-not-has_entry+in_ok-ty+in_ok-asked+in_ok-label+in_ok-push w ↦
      raised_more c.args.by c.args.bindings c.loop-entry.asked c.if-not-has_entry.asked c.args.entries.now c.loop-entry.raised c.if-not-has_entry.raised c.loop-entry.entry-index c.entry-item.result
      (record { label = w.in_ok-label.label; ty = w.in_ok-ty.ty }) c.loop-entry-test.true c.entry-item.is c.loop-entry.invariant
      (unlisted_from c.entry-item.result.label c.as_slice.result.now c.loop-entry.raised c.has_entry.result c.as_slice.ensures c.has_entry.ensures w.if-not-has_entry.true)
      w.in_ok-label.ensures w.in_ok-ty.ensures (w.raised-is ∙ w.in_ok-push.ensures.ok)
      (subst (λ b. (s : Solution) → Solves s b ↔ (Solves s c.loop-entry.asked × IsType (ground s (term w.in_ok-ty.ty)))) (sym w.asked-is) w.in_ok-asked.ensures.ok)
      (ap next_of w.asked-is ∙ w.in_ok-asked.ensures.next)
  | else-not-has_entry w ↦
      subst (λ b. AreRaised c.args.by c.args.bindings (take (c.loop-entry.entry-index + 1) c.args.entries.now) b c.if-not-has_entry.raised) (sym w.asked-is)
      (subst (AreRaised c.args.by c.args.bindings (take (c.loop-entry.entry-index + 1) c.args.entries.now) c.loop-entry.asked) (sym w.raised-is)
      (raised_same c.args.by c.args.bindings c.loop-entry.asked c.args.entries.now c.loop-entry.raised c.loop-entry.entry-index c.entry-item.result c.loop-entry-test.true c.entry-item.is c.loop-entry.invariant
      (listed_from c.entry-item.result.label c.as_slice.result.now c.loop-entry.raised c.has_entry.result c.as_slice.ensures c.has_entry.ensures w.if-not-has_entry.false)))
]
