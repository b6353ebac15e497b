use Rattle.std.proofs.Common.{◌≡◌, ◌≤ℤ◌, map}
use Rattle.fx_data.specs.Regrouped.{all_joined}
use Rattle.fx_window.specs.Numbers.{numbers}
use Rattle.fx_window.specs.Reaches.{rows_in}
use Rattle.fx_window.proofs.windowing.push_windows.Given as goal

abbrev pub invariant-loop-k : goal.invariant-loop-k
invariant-loop-k l = record {
  same : all_joined l.runs (map (rows_in l.frame.every l.frame.period l.reach l.key l.rows) (numbers l.k l.reach.next))
      ≡ all_joined l.fn.runs (map (rows_in l.frame.every l.frame.period l.reach l.key l.rows) (numbers l.reach.first l.reach.next));
  from : l.reach.first ≤ℤ l.k;
}
