use Rattle.std.proofs.Common.{ap, ◌∙◌}
use Rattle.fx_unify.specs.Sorts.{set_at, every}
use Rattle.fx_unify.proofs.BoundLaws.{default_added}
use Rattle.fx_unify.proofs.sorts.put_sorts.Goals as goal

pub loop-sorts-preserved : goal.loop-sorts-preserved
loop-sorts-preserved c =
    λ n. ap (λ ks. set_at ks n) c.in_ok-push.ensures.items ∙ default_added c.loop-sorts.sorts.items n every ∙ c.loop-sorts.invariant n
