use Rattle.fx_unify.proofs.AskLaws.{equation_asked, equation_below}
use Rattle.fx_unify.proofs.bindings.Bindings.later.Goals as goal

pub invariant_of-result : goal.invariant_of-result
invariant_of-result c = record {
  below =
      equation_below c.args.self.store (record c.args.self.store { work = c.put_off.new.work }) c.args.a.now c.args.b.now c.in_ok-left.left c.in_ok-right.right c.in_ok-left.ensures c.in_ok-right.ensures (λ s. (λ h. h, λ h. h)) c.in_ok-put_off.ensures
      c.args.self.bounds.items c.args.self.also.items c.args.self.next c.max-next.result c.numbers.result c.numbers-2.result c.max-greatest.result c.numbers.ensures c.numbers-2.ensures c.max-greatest.ensures c.max-next.ensures c.args.self.below;
}

pub returns-clause-ok : goal.returns-clause-ok
returns-clause-ok c =
    equation_asked c.args.self.store (record c.args.self.store { work = c.put_off.new.work }) c.args.a.now c.args.b.now c.in_ok-left.left c.in_ok-right.right c.in_ok-left.ensures c.in_ok-right.ensures (λ s. (λ h. h, λ h. h)) c.in_ok-put_off.ensures c.args.self.bounds.items c.args.self.also.items
