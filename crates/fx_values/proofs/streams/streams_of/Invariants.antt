use Rattle.std.proofs.Common.{map}
use Rattle.fx_meaning.specs.Natives.{stream_of}
use Rattle.fx_values.specs.Shape.{call, slot, slots_of}
use Rattle.fx_values.proofs.EachLaws.{Made}
use Rattle.fx_values.proofs.streams.streams_of.Given as goal

abbrev pub invariant-loop-label : goal.invariant-loop-label
invariant-loop-label l = Made (λ x. stream_of x.now (slots_of (map slot l.args))) l.labels l.label-index (map (λ c. call c.value) l.found)
