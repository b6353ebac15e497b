use Rattle.std.proofs.Common.{◌≡◌, ◌-◌, drop, subst, arith, rules}
use Rattle.std.specs.Prelude.{IsTrue}
use Rattle.fx_data.specs.Ascending.{Rise}
use Rattle.fx_data.proofs.Rise.{rise_short, rise_back}
use Rattle.fx_data.proofs.order.are_rising.Goals as goal

pub loop-i-preserved : goal.loop-i-preserved
loop-i-preserved c = λ j next rise.
    let i = c.loop-i.i in
    let same : j ≡ i = omega arith in
    let below : IsTrue c.is_below.result = search rules in
    c.loop-i.invariant (i - 1) (omega arith)
    (rise_back c.args.tables.now i (i - 1) c.index-tables-i.result c.index-tables-i-in-loop-i.result (omega arith) (omega arith) c.index-tables-i.is c.index-tables-i-in-loop-i.is (c.is_below.ensures below)
    (subst (λ n. Rise (drop n c.args.tables.now)) same rise))

pub returns : goal.returns
returns c = λ _. c.loop-i.invariant (c.loop-i.i - 1) (omega arith) (rise_short c.args.tables.now (c.loop-i.i - 1) (omega arith))
