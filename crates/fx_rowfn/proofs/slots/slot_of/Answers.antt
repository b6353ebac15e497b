use Rattle.fx_values.proofs.ValueLaws.{slot_made}
use Rattle.fx_rowfn.proofs.slots.slot_of.Goals as goal

pub returns : goal.returns
returns c = slot_made c.args.label c.args.value
