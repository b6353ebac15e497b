use Rattle.std.proofs.Common.{◌≡◌, map}
use Rattle.fx_value.specs.declared.scalar.Scalar.TheVariants as scalar
use Rattle.fx_value.specs.Row.{row_of}
use Rattle.fx_series.specs.Read.{pairs}
use Rattle.fx_top.proofs.source.rows_of.Given as goal

abbrev pub invariant-loop-point : goal.invariant-loop-point
invariant-loop-point l = l.rows.items ≡ map (λ v. row_of l.shape-inside.head.value (scalar.Time v.0) v.1) (pairs l.yielded)
