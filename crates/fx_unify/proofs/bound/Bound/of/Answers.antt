use Rattle.fx_unify.proofs.KindLaws.{scalars}
use Rattle.fx_unify.proofs.bound.Bound.of.Goals as goal

pub invariant_of-result : goal.invariant_of-result
invariant_of-result c = record { scalar = scalars c.args.kinds.now c.args.span c.of-sorts.result c.of-sorts.ensures }
