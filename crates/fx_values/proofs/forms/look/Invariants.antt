use Rattle.std.proofs.Common.{◌≡◌, drop, map}
use Rattle.std.specs.Prelude.{option_map}
use Rattle.fx_meaning.specs.Value.{look, or_else}
use Rattle.fx_values.specs.Shape.{slot, slots_of, val}
use Rattle.fx_values.proofs.forms.look.Given as goal

abbrev pub invariant-loop-slot : goal.invariant-loop-slot
invariant-loop-slot l =
    look l.label (slots_of (map slot l.slots))
    ≡ or_else (look l.label (slots_of (map slot (drop l.slot-index l.slots)))) (option_map (λ v. val v.now) l.found)
