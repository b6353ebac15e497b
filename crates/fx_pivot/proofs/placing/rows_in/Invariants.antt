use Rattle.std.proofs.Common.{◌≡◌, map}
use Rattle.fx_pivot.specs.declared.placing.Line.{Line}
use Rattle.fx_pivot.proofs.placing.rows_in.Given as goal

abbrev pub invariant-loop-line : goal.invariant-loop-line
invariant-loop-line l = l.rows.items ≡ map (λ (x : Line). x.row) l.yielded
