use Rattle.std.proofs.Common.{◌≡◌, ◌++◌, map}
use Rattle.fx_window.proofs.uncutting.push_keyed.Given as goal

abbrev pub invariant-loop-row : goal.invariant-loop-row
invariant-loop-row l =
    (l.all.items ++ map (λ row. record { key = l.key; row = row }) l.row-iterator.rest.items)
    ≡ l.initial.all.items ++ map (λ row. record { key = l.key; row = row }) l.fn.rows
