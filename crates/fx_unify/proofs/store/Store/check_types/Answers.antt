use Rattle.std.proofs.Common.{ℕ, ap, length, None, arith}
use Rattle.std.specs.Prelude.{option_map}
use Rattle.fx_types.specs.Ground.{g_is}
use Rattle.fx_types.specs.Shape.{term}
use Rattle.fx_unify.specs.Decide.{Fixed}
use Rattle.fx_unify.specs.Measure.{least}
use Rattle.fx_unify.specs.Part.{p_is}
use Rattle.fx_unify.proofs.DecideLaws.{one_further, all_further, fixed_more, fixed_of, type_err, type_free, no_item}
use Rattle.fx_unify.proofs.store.Store.check_types.Goals as goal

pub returns-in-Err-clause-checked : goal.returns-in-Err-clause-checked
returns-in-Err-clause-checked c =
    type_err c.args.self.now c.args.sorts.now c.loop-variable.variable c.in-Err.fault (λ k. (n : ℕ) → Fixed (least c.args.self.now c.args.sorts.now) (λ s. g_is (s.type_of n)) k) c.in-Err.ensures.nodes

pub loop-variable-preserved : goal.loop-variable-preserved
loop-variable-preserved c = (
  one_further (λ n k. Fixed (least c.args.self.now c.args.sorts.now) (λ s. g_is (s.type_of n)) k) (λ n k j. fixed_more (least c.args.self.now c.args.sorts.now) (λ s. g_is (s.type_of n)) k j) c.loop-variable.variable
      c.loop-variable.invariant.0 (fixed_of c.args.self.now c.args.sorts.now (λ s. g_is (s.type_of c.loop-variable.variable)) c.in-Ok.field-0 c.in-Ok.ensures.nodes),
  c.count_variable.ensures.counts,
)

pub returns-clause-checked : goal.returns-clause-checked
returns-clause-checked c =
    all_further (λ n k. Fixed (least c.args.self.now c.args.sorts.now) (λ s. g_is (s.type_of n)) k) (λ n k j. fixed_more (least c.args.self.now c.args.sorts.now) (λ s. g_is (s.type_of n)) k j) (length c.args.self.now.types.items)
    c.loop-variable.variable (omega arith) c.loop-variable.invariant.0
    (λ n le. type_free c.args.self.now c.args.sorts.now n (ap (option_map (λ t. p_is (term t))) (no_item c.args.self.now.types.items n None le)))
