use borrow.Author.Count.{below_more}
use Rattle.std.proofs.Common.{◌<◌, arith}
use Rattle.fx_unify.specs.Part.{p_field}
use Rattle.fx_unify.specs.Store.{entry}
use Rattle.fx_unify.specs.View.{part_seen}
use Rattle.fx_generalize.specs.Open.{Ends}
use Rattle.fx_generalize.proofs.ends.see_fields.Goals as goal

pub loop-number-preserved : goal.loop-number-preserved
loop-number-preserved c =
    below_more (λ n. Ends (entry c.args.bindings.now.store) (p_field n)) c.loop-number.number c.loop-number.invariant
    (part_seen c.in_ok-seen.field-0, (c.in_ok-seen.ensures.leads, c.in_ok-seen.ensures.free, c.in_ok-seen.ensures.same))

pub returns : goal.returns
returns c = λ n lt. c.loop-number.invariant n (let less : n < c.loop-number.number = omega arith in less)
