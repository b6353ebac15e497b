-- The next table stands in the block exactly where its labels are the same and its kinds may share a column.
use Rattle.std.proofs.Common.{◌≡◌, ◌∙◌, true, false, map, sym}
use Rattle.std.specs.Cmp.Lexicographic.{pointwise}
use Rattle.fx_csv.specs.Printed.{key_labels, same_labels}
use Rattle.fx_csv.specs.Shapes.{agrees}
use Rattle.fx_csv.proofs.BlockSteps.{grown, verdict}
use Rattle.fx_csv.proofs.block.join.Goals as goal

pub returns-then-not-all_agree : goal.returns-then-not-all_agree
returns-then-not-all_agree c rest h =
    let keys : true ≡ same_labels (key_labels c.args.first.now) (key_labels c.args.next.now)
    = c.if-not-same_key_labels.ensures ∙ (λ i. same_labels (map (λ e. e.label) (c.as_slice.ensures i)) (map (λ e. e.label) (c.as_slice-2.ensures i))) in (
      verdict c.args.first.now c.args.next.now rest true false _ _ h.passes c.requires.kinds keys c.if-not-all_agree.ensures
          (c.as_slice-3.ensures.value ∙ h.shape) (c.as_slice-4.ensures.value ∙ c.in_ok-others.ensures),
      h.shape,
    )

pub returns : goal.returns
returns c rest h =
    let keys : true ≡ same_labels (key_labels c.args.first.now) (key_labels c.args.next.now)
    = c.if-not-same_key_labels.ensures ∙ (λ i. same_labels (map (λ e. e.label) (c.as_slice.ensures i)) (map (λ e. e.label) (c.as_slice-2.ensures i))) in (
      verdict c.args.first.now c.args.next.now rest true true _ _ h.passes c.requires.kinds keys c.if-not-all_agree.ensures
          (c.as_slice-3.ensures.value ∙ h.shape) (c.as_slice-4.ensures.value ∙ c.in_ok-others.ensures),
      c.widen_all.ensures
          ∙ grown c.args.first.now c.args.next.now rest c.args.columns.now.items c.as_slice-5.result.now h.shape
          (c.as_slice-5.ensures.value ∙ c.in_ok-others.ensures)
          ((λ i. pointwise agrees (sym c.as_slice-3.ensures.value i) ((c.as_slice-5.ensures.value ∙ sym c.as_slice-4.ensures.value) i)) ∙ sym c.if-not-all_agree.ensures),
    )
