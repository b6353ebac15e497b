use Rattle.fx_unify.proofs.AskLaws.{type_asked, type_below}
use Rattle.fx_unify.proofs.bindings.Bindings.fits_later.Goals as goal

pub invariant_of-result : goal.invariant_of-result
invariant_of-result c = record {
  below = type_below c.args.self.store c.args.self.bounds.items c.args.self.also.items c.push.new.self.items c.args.ty.now c.in_ok-copy.copy c.in_ok-copy.ensures c.in_ok-push.ensures.items c.args.self.next c.max-next.result c.numbers.result c.numbers.ensures c.max-next.ensures c.args.self.below;
}

pub returns-clause-ok : goal.returns-clause-ok
returns-clause-ok c = type_asked c.args.self.store c.args.self.bounds.items c.args.self.also.items c.push.new.self.items c.args.ty.now c.in_ok-copy.copy c.in_ok-copy.ensures c.in_ok-push.ensures.items
