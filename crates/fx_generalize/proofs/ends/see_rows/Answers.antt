use borrow.Author.Count.{below_more}
use Rattle.std.proofs.Common.{◌<◌, arith}
use Rattle.fx_types.specs.Term.{Label}
use Rattle.fx_unify.specs.Part.{p_slot}
use Rattle.fx_unify.specs.Store.{entry}
use Rattle.fx_generalize.specs.Open.{Ends, RowEnds}
use Rattle.fx_generalize.proofs.ends.see_rows.Goals as goal

pub loop-row-preserved : goal.loop-row-preserved
loop-row-preserved c =
    below_more (λ r. RowEnds c.args.bindings.now.store r × ((k : Label) → Ends (entry c.args.bindings.now.store) (p_slot r k))) c.loop-row.row c.loop-row.invariant c.in_ok-see_row.ensures

pub returns : goal.returns
returns c = λ n lt. c.loop-row.invariant n (let less : n < c.loop-row.row = omega arith in less)
