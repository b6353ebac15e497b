use Rattle.fx_types.specs.Shape.{term}
use Rattle.fx_infer.proofs.RowLaws.{row_made}
use Rattle.fx_infer.proofs.records.row_of.Goals as goal

pub returns : goal.returns
returns c =
    row_made c.args.bindings c.in_ok-bindings.bindings c.in_ok-number.number (term c.args.of.now) (term c.in_ok-whole.whole) _ c.in_ok-number.ensures c.requires.below c.requires.typed c.empty.ensures c.in_ok-whole.ensures
    c.in_ok-bindings.ensures.next c.in_ok-bindings.ensures.ok
