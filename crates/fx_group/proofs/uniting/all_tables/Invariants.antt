use Rattle.std.proofs.Common.{◌≡◌}
use Rattle.std.specs.List.{flat_map, AllByRecursion}
use Rattle.fx_data.specs.Table.{IsLawfulTable}
use Rattle.fx_group.proofs.uniting.all_tables.Given as goal

abbrev pub invariant-loop-tables : goal.invariant-loop-tables
invariant-loop-tables l = (l.all.items ≡ flat_map (λ tables. tables) l.yielded) × AllByRecursion IsLawfulTable l.all.items
