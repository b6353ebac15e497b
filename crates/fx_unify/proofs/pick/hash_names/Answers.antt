use Rattle.std.proofs.Common.{ap, ◌∙◌}
use Rattle.fx_types.proofs.Lists.{take_all}
use Rattle.fx_unify.specs.Sums.{names}
use Rattle.fx_unify.proofs.PlaceLaws.{name_hashed}
use Rattle.fx_unify.proofs.pick.hash_names.Goals as goal

pub loop-entry-preserved : goal.loop-entry-preserved
loop-entry-preserved c =
    name_hashed c.args.entries.now c.loop-entry.entry-index c.entry-item.result c.in_ok-copy.field-0 c.loop-entry.labels.keys c.insert.new.self.keys c.in_ok-insert.field-0 c.loop-entry-test.true c.entry-item.is
    c.in_ok-copy.ensures c.in_ok-insert.ensures.keys c.in_ok-insert.ensures.added c.if-not-branch.false c.loop-entry.invariant

pub returns : goal.returns
returns c = λ e. c.loop-entry.invariant ∙ ap names (take_all c.args.entries.now c.loop-entry.entry-index c.loop-entry-test.false)
