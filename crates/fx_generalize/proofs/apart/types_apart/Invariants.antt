use Rattle.std.proofs.Common.{◌≡◌, ◌<◌, ℕ, None, slice_index}
use Rattle.fx_generalize.specs.Named.{type_place}
use Rattle.fx_generalize.proofs.apart.types_apart.Given as goal

abbrev pub invariant-loop-number : goal.invariant-loop-number
invariant-loop-number l = (k : ℕ) → k < l.number-index → type_place l.names (slice_index l.numbers k) ≡ None
