use Rattle.std.proofs.Common.{◌≡◌, map}
use Rattle.std.specs.Prelude.{IfSome}
use Rattle.fx_data.specs.Regrouped.{all_joined}
use Rattle.fx_group.specs.Group.{picked_table}
use Rattle.fx_group.specs.Wanted.{picks, IsPattern}
use Rattle.fx_group.proofs.grouping.push_rows.Given as goal

abbrev pub invariant-loop-row : goal.invariant-loop-row
invariant-loop-row l = record {
  same : all_joined l.runs (map (picked_table (picks l.columns l.except)) l.row-iterator.rest.items) ≡ all_joined l.fn.runs (map (picked_table (picks l.columns l.except)) l.fn.rows);
  pattern : IfSome l.last (IsPattern (picks l.columns l.except));
}
