use Rattle.std.proofs.Common.{◌≡◌, drop, map}
use Rattle.fx_ast.specs.Shape.{param, params_of}
use Rattle.fx_meaning.specs.Meaning.{pipe_of}
use Rattle.fx_rowfn.proofs.pipes.first_pipe.Given as goal

abbrev pub invariant-loop-first : goal.invariant-loop-first
invariant-loop-first l = pipe_of (params_of (map param l.params)) ≡ pipe_of (params_of (map param (drop l.first-index l.params)))
