use Rattle.fx_value.proofs.Heads.{no_slots}
use Rattle.fx_value.proofs.head.Head.empty.Goals as goal

pub returns : goal.returns
returns c = no_slots _ c.new.ensures.items
