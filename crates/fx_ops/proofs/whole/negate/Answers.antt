use Rattle.fx_value.specs.declared.scalar.Kind.TheVariants.{Int}
use Rattle.fx_ops.specs.Whole.{negation}
use Rattle.fx_ops.proofs.KindLaws.{kind_told, negation_suits, range_told}
use Rattle.fx_ops.proofs.whole.negate.Goals as goal

pub returns-clause-kind : goal.returns-clause-kind
returns-clause-kind c = kind_told Int (negation c.args.a.now) c.in_ok-value.value c.in_ok-value.ensures.answer (negation_suits c.args.a.now)

pub returns-clause-range : goal.returns-clause-range
returns-clause-range c =
    range_told Int (negation c.args.a.now) c.in_ok-value.value c.in_ok-value.ensures.answer (negation_suits c.args.a.now) c.see_whole.ensures
