use Rattle.std.proofs.Common.{◌≡◌, ◌↔◌, ◌∙◌, subst, false, take}
use Rattle.fx_types.specs.Ground.{listed}
use Rattle.fx_types.specs.Shape.{row_term}
use Rattle.fx_unify.specs.Rows.{ground_row, ground_entries, SameAt}
use Rattle.fx_unify.specs.Work.{Hold}
use Rattle.fx_types.proofs.Lists.{take_all}
use Rattle.fx_unify.proofs.RowLaws.{label_step, left_over, once}
use Rattle.fx_unify.proofs.compare.put_off_all.Goals as goal

pub loop-label-preserved : goal.loop-label-preserved
loop-label-preserved c =
    let new : listed c.label-item.result (take c.loop-label.label-index c.args.labels.now) ≡ false =
    once c.args.labels.now c.loop-label.label-index c.label-item.result c.requires c.loop-label-test.true c.label-item.is in record {
      put_off = λ s. label_step (ground_row s (row_term c.args.a)) (ground_row s (row_term c.args.b)) c.args.labels.now c.loop-label.label-index c.label-item.result _ _ c.loop-label-test.true c.label-item.is
          (c.in_ok-first.ensures.field s ∙ c.loop-label.invariant.left s c.label-item.result new) (c.in_ok-second.ensures.field s ∙ c.loop-label.invariant.right s c.label-item.result new)
          (c.in_ok-put_off.ensures s) (c.loop-label.invariant.put_off s);
      left = left_over (λ s. ground_entries s c.loop-label.left) (λ s. ground_entries s c.take.new.self) (λ s. ground_row s (row_term c.args.a)) c.args.labels.now c.loop-label.label-index c.label-item.result
          c.loop-label-test.true c.label-item.is c.take.ensures.others c.loop-label.invariant.left;
      right = left_over (λ s. ground_entries s c.loop-label.right) (λ s. ground_entries s c.take-in-loop-label.new.self) (λ s. ground_row s (row_term c.args.b)) c.args.labels.now c.loop-label.label-index
          c.label-item.result c.loop-label-test.true c.label-item.is c.take-in-loop-label.ensures.others c.loop-label.invariant.right;
      left_hashed = c.take.ensures.hashed;
      right_hashed = c.take-in-loop-label.ensures.hashed;
    }

pub returns : goal.returns
returns c =
    λ s. subst (λ ls. Hold s c.loop-label.work.items ↔ (Hold s c.args.work.now.items × SameAt (ground_row s (row_term c.args.a)) (ground_row s (row_term c.args.b)) ls))
    (take_all c.args.labels.now c.loop-label.label-index c.loop-label-test.false) (c.loop-label.invariant.put_off s)
