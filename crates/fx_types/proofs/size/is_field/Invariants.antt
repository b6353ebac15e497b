use Rattle.std.proofs.Common.{◌≡◌, map, drop}
use Rattle.fx_types.specs.Ground.{listed}
use Rattle.fx_types.proofs.size.is_field.Given as goal

abbrev pub invariant-loop-entry : goal.invariant-loop-entry
invariant-loop-entry l =
    listed l.label (map (λ e. e.label) l.entries) ≡ listed l.label (map (λ e. e.label) (drop l.entry-index l.entries))
