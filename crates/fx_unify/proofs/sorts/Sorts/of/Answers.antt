use Rattle.std.proofs.Common.{refl, get_or}
use Rattle.fx_value.specs.declared.scalar.Kind.TheVariants as kind
use Rattle.fx_unify.proofs.BoundLaws.{item_again}
use Rattle.fx_unify.proofs.KindLaws.{from_none, kind_added, kinds_all}
use Rattle.fx_unify.proofs.sorts.Sorts.of.Goals as goal

pub loop-kind-init : goal.loop-kind-init
loop-kind-init c =
    from_none c.args.span _ refl

pub loop-kind-preserved : goal.loop-kind-preserved
loop-kind-preserved c =
    kind_added c.args.kinds.now c.loop-kind.kind-index (get_or c.args.kinds.now c.loop-kind.kind-index kind.Bool) c.args.span c.loop-kind.sorts c.with-sorts.result c.loop-kind-test.true (item_again c.args.kinds.now c.loop-kind.kind-index kind.Bool c.loop-kind-test.true) c.with-sorts.ensures c.loop-kind.invariant

pub returns : goal.returns
returns c =
    kinds_all c.args.kinds.now c.loop-kind.kind-index c.args.span c.loop-kind.sorts c.loop-kind-test.false c.loop-kind.invariant
