use Rattle.std.proofs.Common.{sym, ◌∙◌}
use Rattle.fx_unify.proofs.pick.find_label.Goals as goal
use Rattle.fx_unify.proofs.LabelLaws.{first_found, first_missed}

pub returns-then-eq : goal.returns-then-eq
returns-then-eq c =
    first_found (λ e. e.label) c.args.label.now c.args.entries.now c.loop-i.i c.index-entries-i.result c.loop-i-test.true c.index-entries-i.is (sym c.eq.ensures ∙ c.if-eq.true) c.loop-i.invariant.1

pub loop-i-preserved : goal.loop-i-preserved
loop-i-preserved c =
    first_missed (λ e. e.label) c.args.label.now c.args.entries.now c.loop-i.i c.index-entries-i.result c.loop-i-test.true c.index-entries-i.is (sym c.eq.ensures ∙ c.if-eq.false) c.loop-i.invariant
