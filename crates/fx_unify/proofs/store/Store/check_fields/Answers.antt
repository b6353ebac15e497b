use Rattle.std.proofs.Common.{◌∙◌, sym, ap, length, get_or, None}
use Rattle.std.specs.Prelude.{option_map}
use Rattle.fx_unify.specs.Decide.{Fixed}
use Rattle.fx_unify.specs.Measure.{least}
use Rattle.fx_unify.specs.Part.{part}
use Rattle.fx_unify.proofs.DecideLaws.{one_further, all_further, fixed_more, field_free, same_item, no_item}
use Rattle.fx_unify.proofs.store.Store.check_fields.Goals as goal

pub loop-slot-preserved : goal.loop-slot-preserved
loop-slot-preserved c = (
  one_further (λ n k. Fixed (least c.args.self.now c.args.sorts.now) (λ s. s.field_of n) k) (λ n k j. fixed_more (least c.args.self.now c.args.sorts.now) (λ s. s.field_of n) k j) c.loop-slot.slot-index c.loop-slot.invariant.0
      (c.in_default.ensures.checked c.loop-slot.slot-index (ap (option_map part)
      (ap (λ xs. get_or xs c.loop-slot.slot-index None) (sym c.as_slice-slot-items.ensures.value) ∙ same_item c.as_slice-slot-items.result.now c.loop-slot.slot-index c.slot-item.result None c.loop-slot-test.true c.slot-item.is))),
  c.check_field.ensures.counts,
)

pub returns-clause-checked : goal.returns-clause-checked
returns-clause-checked c =
    all_further (λ n k. Fixed (least c.args.self.now c.args.sorts.now) (λ s. s.field_of n) k) (λ n k j. fixed_more (least c.args.self.now c.args.sorts.now) (λ s. s.field_of n) k j) (length c.as_slice-slot-items.result.now)
    c.loop-slot.slot-index c.loop-slot-test.false c.loop-slot.invariant.0
    (λ n le. field_free c.args.self.now c.args.sorts.now n (ap (option_map part) (ap (λ xs. get_or xs n None) (sym c.as_slice-slot-items.ensures.value) ∙ no_item c.as_slice-slot-items.result.now n None le)))
