use Rattle.std.proofs.Common.{◌≡◌, map}
use Rattle.std.specs.List.{flat_map}
use Rattle.fx_data.specs.Gathered.{grouped}
use Rattle.fx_data.specs.Regrouped.{all_joined}
use Rattle.fx_group.specs.Group.{picked_table}
use Rattle.fx_group.specs.Wanted.{picks}
use Rattle.fx_group.proofs.grouping.runs_of.Given as goal

abbrev pub invariant-loop-table : goal.invariant-loop-table
invariant-loop-table l =
    all_joined l.runs (map (picked_table (picks l.columns l.except)) (flat_map (λ t. t.rows) l.table-iterator.rest.items))
    ≡ grouped (map (picked_table (picks l.columns l.except)) (flat_map (λ t. t.rows) l.fn.tables))
