use Rattle.fx_unify.proofs.AskLaws.{nothing_asked, nothing_least, nothing_below}
use Rattle.fx_unify.proofs.bindings.Bindings.empty.Goals as goal

pub invariant_of-result : goal.invariant_of-result
invariant_of-result c = record {
  below =
      nothing_below (record { types = c.new.result; fields = c.new-2.result; slots = c.new-3.result; apart = c.new-4.result; rests = c.new-5.result; work = c.new-6.result }) c.new-7.result.items c.new-8.result.items
      c.new.ensures.items c.new-2.ensures.items c.new-3.ensures.items c.new-4.ensures.items c.new-5.ensures.items c.new-6.ensures.items c.new-7.ensures.items c.new-8.ensures.items;
}

pub returns-clause-all : goal.returns-clause-all
returns-clause-all c =
    nothing_asked (record { types = c.new.result; fields = c.new-2.result; slots = c.new-3.result; apart = c.new-4.result; rests = c.new-5.result; work = c.new-6.result }) c.new-7.result.items c.new-8.result.items
    c.new.ensures.items c.new-2.ensures.items c.new-3.ensures.items c.new-4.ensures.items c.new-5.ensures.items c.new-6.ensures.items c.new-7.ensures.items c.new-8.ensures.items

pub returns-clause-least : goal.returns-clause-least
returns-clause-least c =
    nothing_least (record { types = c.new.result; fields = c.new-2.result; slots = c.new-3.result; apart = c.new-4.result; rests = c.new-5.result; work = c.new-6.result }) c.new-7.result.items c.new-8.result.items
    c.new.ensures.items c.new-2.ensures.items c.new-3.ensures.items c.new-4.ensures.items c.new-5.ensures.items c.new-6.ensures.items c.new-7.ensures.items c.new-8.ensures.items
