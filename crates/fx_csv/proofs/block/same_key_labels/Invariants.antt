use Rattle.std.proofs.Common.{◌≡◌, drop, map}
use Rattle.fx_csv.specs.Printed.{same_labels}
use Rattle.fx_csv.proofs.block.same_key_labels.Given as goal

abbrev pub invariant-loop-i : goal.invariant-loop-i
invariant-loop-i l =
    same_labels (map (λ e. e.label) (drop l.i l.a)) (map (λ e. e.label) (drop l.i l.b))
    ≡ same_labels (map (λ e. e.label) l.a) (map (λ e. e.label) l.b)
