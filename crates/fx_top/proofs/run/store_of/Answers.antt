use Rattle.std.proofs.Common.{[], sym, subst, take}
use Rattle.fx_series.specs.Store.{StandsFor}
use Rattle.fx_top.specs.Answer.{buckets_of}
use Rattle.fx_top.proofs.StoreLemmas.{all_of, one_more}
use Rattle.fx_top.proofs.run.store_of.Goals as goal

pub loop-load-init : goal.loop-load-init
loop-load-init c = c.in_ok-store.ensures

pub loop-load-preserved : goal.loop-load-preserved
loop-load-preserved c =
    subst (λ buckets. StandsFor c.add_bucket.new.self buckets []) (sym (one_more c.args.loads.now c.loop-load.load-index c.load-item.result c.loop-load-test.true c.load-item.is))
    (c.in_ok-add_bucket.ensures.ok (buckets_of (take c.loop-load.load-index c.args.loads.now)) [] c.loop-load.invariant)

pub returns : goal.returns
returns c = subst (λ buckets. StandsFor c.loop-load.store buckets []) (all_of c.args.loads.now c.loop-load.load-index c.loop-load-test.false) c.loop-load.invariant
