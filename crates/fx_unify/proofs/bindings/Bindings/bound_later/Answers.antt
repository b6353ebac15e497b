use Rattle.fx_types.specs.Kinds.{IsAmong}
use Rattle.fx_unify.proofs.AskLaws.{bound_asked, bound_below}
use Rattle.fx_unify.proofs.KindLaws.{among}
use Rattle.fx_unify.proofs.bindings.Bindings.bound_later.Goals as goal

pub invariant_of-result : goal.invariant_of-result
invariant_of-result c = record {
  below = bound_below c.args.self.store c.args.self.bounds.items c.push.new.self.items c.args.self.also.items c.of-bound.result c.in_ok-push.ensures.items c.args.var c.of-bound.ensures.var c.args.self.next c.max-next.result c.max-next.ensures c.args.self.below;
}

pub returns-clause-ok : goal.returns-clause-ok
returns-clause-ok c =
    bound_asked c.args.self.store c.args.self.bounds.items c.push.new.self.items c.args.self.also.items c.of-bound.result c.in_ok-push.ensures.items c.args.var c.of-bound.ensures.var
    (IsAmong c.args.kinds.now c.args.span) (among c.args.kinds.now c.as_slice.result.now c.args.span c.of-bound.result.sorts c.as_slice.ensures c.of-bound.ensures.sorts)
