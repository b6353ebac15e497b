use Rattle.std.proofs.Common.{subst}
use Rattle.fx_unify.specs.Bounds.{Narrowed}
use Rattle.fx_unify.proofs.AskLaws.{not_refused}
use Rattle.fx_unify.proofs.bindings.Bindings.left.Goals as goal

pub unreachable-requires : goal.unreachable-requires
unreachable-requires c =
    not_refused c.args.self.now c.as_slice.result.now c.in-Err-Clash.field-0 c.as_slice.ensures.value c.in-Err-Clash.field-0-is c.in-Err-Clash.ensures.clash c.requires

pub returns-in-Ok-clause-narrowed : goal.returns-in-Ok-clause-narrowed
returns-in-Ok-clause-narrowed c = subst (Narrowed c.args.self.now.store c.in-Ok.sorts.items) c.as_slice.ensures.value c.in-Ok.ensures.ok
