use Rattle.std.proofs.lemmas.Int.{to_z-of_z}
use Rattle.fx_parse.proofs.items.time.Goals as goal

pub returns : goal.returns
returns c =
    let is = (c.read_time.ensures.is c.in-Some.time).1 c.in-Some.is in
    let fits = is.0 in
    simp to_z-of_z is
