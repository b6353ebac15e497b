use Rattle.fx_value.specs.Calls.{IsMetered, SamePatterns}
use Rattle.fx_values.specs.Known.{hears}
use Rattle.fx_rowfn.specs.State.{stack_of}
use Rattle.fx_rowfn.proofs.RunLaws.{Runs}
use Rattle.fx_rowfn.proofs.run.run.Given as goal

abbrev pub invariant-loop : goal.invariant-loop
invariant-loop g l =
    Runs (hears l.known (g.P.Patterns.test l.initial.patterns)) l.fn.start l.control (stack_of l.frames.items) l.initial.meter l.meter
    × IsMetered l.initial.meter l.meter
    × SamePatterns g.P.Patterns.built g.P.Patterns.refusals g.P.Patterns.test l.initial.patterns l.patterns
