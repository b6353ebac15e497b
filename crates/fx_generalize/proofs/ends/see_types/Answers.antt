use borrow.Author.Count.{below_more}
use Rattle.std.proofs.Common.{◌<◌, arith}
use Rattle.fx_types.specs.Term.{type_variable}
use Rattle.fx_unify.specs.Part.{p_is}
use Rattle.fx_unify.specs.Store.{entry}
use Rattle.fx_generalize.specs.Open.{Ends}
use Rattle.fx_generalize.proofs.EndLaws.{type_seen}
use Rattle.fx_generalize.proofs.ends.see_types.Goals as goal

pub loop-number-preserved : goal.loop-number-preserved
loop-number-preserved c =
    below_more (λ n. Ends (entry c.args.bindings.now.store) (p_is (type_variable n))) c.loop-number.number c.loop-number.invariant
    (type_seen (entry c.args.bindings.now.store) c.loop-number.number c.in_ok-head.field-0.now c.in_ok-head.ensures.leads c.in_ok-head.ensures.free c.in_ok-head.ensures.same)

pub returns : goal.returns
returns c = λ n lt. c.loop-number.invariant n (let less : n < c.loop-number.number = omega arith in less)
