use Rattle.std.proofs.Common.{map}
use Rattle.std.specs.Prelude.{codes}
use Rattle.fx_meaning.specs.Forms.{items_of}
use Rattle.fx_values.specs.Shape.{slot, slots_of}
use Rattle.fx_values.proofs.CountLaws.{count_told}
use Rattle.fx_values.proofs.natives.length_of.Goals as goal

pub returns : goal.returns
returns c =
    count_told (items_of (codes "arr") (slots_of (map slot c.args.args.now))) c.in_ok-items.items.now c.as_slice.result.now c.args.place c.counted.result
    c.in_ok-items.ensures c.as_slice.ensures c.counted.ensures
