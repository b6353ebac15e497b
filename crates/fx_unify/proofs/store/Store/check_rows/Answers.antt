use Rattle.std.proofs.Common.{ℕ, ◌≤◌, subst, length, [], None, arith}
use Rattle.fx_unify.specs.Decide.{FixedRow}
use Rattle.fx_unify.specs.Measure.{least}
use Rattle.fx_unify.proofs.DecideLaws.{one_further, all_further, row_more, row_unbound, no_item}
use Rattle.fx_unify.proofs.store.Store.check_rows.Goals as goal

pub loop-number-preserved : goal.loop-number-preserved
loop-number-preserved c = (
  one_further (λ r k. FixedRow (least c.args.self.now c.args.sorts.now) (λ s. s.row_of r) k) (λ r k j. row_more (least c.args.self.now c.args.sorts.now) (λ s. s.row_of r) k j) c.loop-number.number
      c.loop-number.invariant.0 (subst (λ r. (k : ℕ) × FixedRow (least c.args.self.now c.args.sorts.now) (λ s. s.row_of r) k) c.in-Ok.ensures.1 c.in_default-check_row.ensures.checked),
  c.check_row.ensures.counts,
)

pub returns-clause-checked : goal.returns-clause-checked
returns-clause-checked c =
    all_further (λ r k. FixedRow (least c.args.self.now c.args.sorts.now) (λ s. s.row_of r) k) (λ r k j. row_more (least c.args.self.now c.args.sorts.now) (λ s. s.row_of r) k j) c.rows-number-end.result
    c.loop-number.number (omega arith) c.loop-number.invariant.0
    (λ r le. (let slots : length c.args.self.now.slots.items ≤ c.rows-number-end.result = c.rows-number-end.ensures.slots in let rests : length c.args.self.now.rests.items ≤ c.rows-number-end.result = c.rows-number-end.ensures.rests in
    row_unbound c.args.self.now c.args.sorts.now r (no_item c.args.self.now.slots.items r [] (omega arith)) (no_item c.args.self.now.rests.items r None (omega arith))))
