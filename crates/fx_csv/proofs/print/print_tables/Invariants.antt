use Rattle.std.proofs.Common.{◌≡◌, ◌-◌, ◌≤◌, ◌++◌, length, All, IsTrue}
use Rattle.fx_data.specs.Table.{IsLawfulTable}
use Rattle.fx_csv.specs.Alike.{HasAlikeRows}
use Rattle.fx_csv.specs.Printed.{blocks_bytes, is_block, printed, HasOneKind}
use Rattle.fx_csv.specs.Runs.{runs}
use Rattle.fx_csv.proofs.print.print_tables.Given as goal

abbrev pub invariant-loop-first : goal.invariant-loop-first
invariant-loop-first l = record {
  text : l.out.items ++ blocks_bytes l.name (length l.all - length l.rest) (runs is_block l.rest) ≡ printed l.name l.all;
  within : length l.rest ≤ length l.all;
  lawful : All IsLawfulTable l.rest;
  kinds : All HasOneKind l.rest;
  alike : IsTrue l.alike → All HasAlikeRows l.rest;
}

abbrev pub decreases-loop-first : goal.decreases-loop-first
decreases-loop-first l = length l.rest
