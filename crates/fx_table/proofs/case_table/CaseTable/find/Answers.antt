use Rattle.std.proofs.Common.{arith, sym}
use Rattle.fx_table.proofs.Search.{less_below, greater_above, one_there, none_between}
use Rattle.fx_table.proofs.case_table.CaseTable.find.Goals as goal

pub loop-low-init : goal.loop-low-init
loop-low-init g c = record { within = omega arith; below = λ k h d. absurd (omega arith); above = λ k d h b. absurd (omega arith) }

pub loop-low-preserved-in-Less : goal.loop-low-preserved-in-Less
loop-low-preserved-in-Less g c =
    let i = c.loop-low.invariant in
    record { within = i.within; below = less_below g.met.K.Ord.total c.args.key.now c.args.self.now.rows.now c.args.self.now.rising _ c.index-self-middle.result (omega arith) c.in-Less.ensures; above = i.above }

pub returns-in-Equal : goal.returns-in-Equal
returns-in-Equal g c = sym (one_there g.met.K.Ord.total c.args.key.now c.args.self.now.rows.now c.args.self.now.rising _ c.index-self-middle.result (omega arith) (sym c.in-Equal.ensures))

pub loop-low-preserved : goal.loop-low-preserved
loop-low-preserved g c =
    let i = c.loop-low.invariant in
    record { within = omega arith; below = i.below; above = greater_above g.met.K.Ord.total c.args.key.now c.args.self.now.rows.now c.args.self.now.rising _ c.index-self-middle.result (omega arith) c.in-Greater.ensures }

pub returns : goal.returns
returns g c = sym (none_between g.K.Ord.cmp c.args.key.now c.args.self.now.rows.now _ _ c.loop-low-test.false c.loop-low.invariant.below c.loop-low.invariant.above)
