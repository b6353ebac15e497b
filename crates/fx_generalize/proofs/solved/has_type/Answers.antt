use Rattle.std.proofs.Common.{subst}
use Rattle.fx_types.specs.Instance.{ground}
use Rattle.fx_types.specs.Size.{IsType}
use Rattle.fx_generalize.proofs.SolvedLaws.{type_at}
use Rattle.fx_generalize.proofs.solved.has_type.Goals as goal

pub returns-then-same_type : goal.returns-then-same_type
returns-then-same_type c =
    λ e s h. subst (λ t. IsType (ground s t)) (c.same_type.ensures c.if-same_type.true) (type_at s c.args.types.now c.loop-other.other-index c.other-item.result c.loop-other-test.true c.other-item.is h)
