use Rattle.std.proofs.Common.{◌==◌, not, take, length-take, arith}
use Rattle.std.proofs.lemmas.List.Sums.{suffix_len-le-length}
use Rattle.fx_top.proofs.place.column_at.Goals as goal

pub overflow_add-column : goal.overflow_add-column
overflow_add-column c =
    let short = suffix_len-le-length (λ b. not (b == 10)) (take c.loop-i.i c.before-front.result.now) in
    grind (arith, short, c.loop-i.invariant, c.loop-i.auto.i-end, c.type_inv.front, length-take)
