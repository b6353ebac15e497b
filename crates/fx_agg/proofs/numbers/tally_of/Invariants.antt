use Rattle.std.proofs.Common.{◌≡◌, drop}
use Rattle.std.specs.Prelude.{None, IfSome}
use Rattle.fx_value.specs.Works.{into}
use Rattle.fx_agg.specs.Numbers.{integers}
use Rattle.fx_agg.specs.Tally.{tallied, IsOfAtMost}
use Rattle.fx_agg.proofs.numbers.tally_of.Given as goal

abbrev pub invariant-loop-row : goal.invariant-loop-row
invariant-loop-row l = record {
  same : into tallied None (integers l.column l.rows) ≡ into tallied l.tally (integers l.column (drop l.row-index l.rows));
  room : IfSome l.tally (λ t. IsOfAtMost l.row-index t.sum);
}
