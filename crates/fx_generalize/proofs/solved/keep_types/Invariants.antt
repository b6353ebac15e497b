use Rattle.std.proofs.Common.{take}
use Rattle.fx_unify.specs.Store.{entry}
use Rattle.fx_generalize.specs.Named.{CoversTypes}
use Rattle.fx_generalize.proofs.solved.keep_types.Given as goal

abbrev pub invariant-loop-ty : goal.invariant-loop-ty
invariant-loop-ty l = CoversTypes (entry l.reader.bindings.now.store) l.reader.names.now (take l.ty-index l.types) l.kept
