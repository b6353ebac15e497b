use Rattle.std.proofs.Common.{subst}
use Rattle.fx_unify.specs.Store.{entry}
use Rattle.fx_generalize.specs.Named.{CoversTypes}
use Rattle.fx_generalize.proofs.solved.read_kept.Goals as goal

pub returns-clause-covers : goal.returns-clause-covers
returns-clause-covers c = subst (λ ts. CoversTypes (entry c.args.bindings.now.store) c.args.names.now ts c.in_ok-also.also) c.types.ensures c.in_ok-also.ensures
