use Rattle.std.proofs.Common.{◌-◌, ◌≡◌, ℕ, ◌<◌, ◌≤◌, length, get_or}
use Rattle.std.specs.declared.cmp.Ordering.TheVariants.{Less, Greater}
use Rattle.fx_table.proofs.case_table.CaseTable.find.Given as goal

abbrev pub invariant-loop-low : goal.invariant-loop-low
invariant-loop-low g l = record {
  within : l.high ≤ length l.self.rows.now;
  below : (k : ℕ) → k < l.low → (d : g.row.K.Denot × g.row.V.Denot) → g.K.Ord.cmp (get_or l.self.rows.now k d).0 l.key ≡ Less;
  above : (k : ℕ) (d : g.row.K.Denot × g.row.V.Denot) → l.high ≤ k → k < length l.self.rows.now → g.K.Ord.cmp (get_or l.self.rows.now k d).0 l.key ≡ Greater;
}

abbrev pub decreases-loop-low : goal.decreases-loop-low
decreases-loop-low g l = l.high - l.low
