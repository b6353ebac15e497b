use Rattle.std.proofs.Common.{ap, ◌∙◌}
use Rattle.fx_types.specs.Ground.{listed}
use Rattle.fx_types.proofs.Lists.{take_all}
use Rattle.fx_unify.proofs.KnownLaws.{hashed_next}
use Rattle.fx_unify.proofs.known.hash_all.Goals as goal

pub loop-label-preserved : goal.loop-label-preserved
loop-label-preserved c =
    hashed_next c.loop-label.hashed.keys c.insert.new.self.keys c.args.labels.now c.loop-label.label-index c.label-item.result c.in_ok-copy.field-0 c.loop-label-test.true c.label-item.is c.in_ok-copy.ensures
    c.in_ok-insert.ensures.keys c.loop-label.invariant

pub returns : goal.returns
returns c = λ x. c.loop-label.invariant x ∙ ap (listed x) (take_all c.args.labels.now c.loop-label.label-index c.loop-label-test.false)
