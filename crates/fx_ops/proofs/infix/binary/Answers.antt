use Rattle.fx_ops.specs.Binary.{answer_kind, binary_of}
use Rattle.fx_ops.proofs.KindLaws.{binary_suits, kind_told, own_kind, own_is, range_told}
use Rattle.fx_ops.proofs.infix.binary.Goals as goal

pub returns-clause-kind : goal.returns-clause-kind
returns-clause-kind c = λ k is.
    kind_told (answer_kind c.args.which k) (binary_of c.args.which c.args.a.now c.args.b.now) c.in_ok-value.value c.in_ok-value.ensures.answer
    (binary_suits c.args.which k c.args.a.now c.args.b.now is)

pub returns-clause-range : goal.returns-clause-range
returns-clause-range c =
    let k = own_kind c.args.a.now in
    range_told (answer_kind c.args.which k) (binary_of c.args.which c.args.a.now c.args.b.now) c.in_ok-value.value c.in_ok-value.ensures.answer
    (binary_suits c.args.which k c.args.a.now c.args.b.now (own_is c.args.a.now)) c.see_whole.ensures
