use Rattle.std.proofs.Common.{map}
use Rattle.fx_meaning.specs.Forms.{stream_in}
use Rattle.fx_values.specs.Shape.{call, val}
use Rattle.fx_values.proofs.EachLaws.{Made}
use Rattle.fx_values.proofs.streams.streams_in.Given as goal

abbrev pub invariant-loop-item : goal.invariant-loop-item
invariant-loop-item l = Made (λ v. stream_in (val v)) l.items l.item-index (map (λ c. call c.value) l.found)
