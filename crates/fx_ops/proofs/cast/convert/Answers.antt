use Rattle.fx_ops.specs.Convert.{converted}
use Rattle.fx_ops.proofs.KindLaws.{converted_suits, kind_told, range_told}
use Rattle.fx_ops.proofs.cast.convert.Goals as goal

pub returns-clause-kind : goal.returns-clause-kind
returns-clause-kind c =
    kind_told c.args.to (converted c.args.to c.args.a.now) c.in_ok-value.value c.in_ok-value.ensures (converted_suits c.args.to c.args.a.now c.see_whole.ensures)

pub returns-clause-range : goal.returns-clause-range
returns-clause-range c =
    range_told c.args.to (converted c.args.to c.args.a.now) c.in_ok-value.value c.in_ok-value.ensures (converted_suits c.args.to c.args.a.now c.see_whole.ensures)
    c.see_whole-2.ensures
