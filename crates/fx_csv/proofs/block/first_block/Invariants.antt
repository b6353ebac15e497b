use Rattle.std.proofs.Common.{◌≡◌, ◌∷◌, take, drop}
use Rattle.fx_csv.specs.Printed.{is_block}
use Rattle.fx_csv.specs.Runs.{runs, runs_from}
use Rattle.fx_csv.specs.Shapes.{AreColumns}
use Rattle.fx_csv.proofs.block.first_block.Given as goal

abbrev pub invariant-loop-i : goal.invariant-loop-i
invariant-loop-i l = record {
  kept : AreColumns l.first (take l.i l.rest) l.columns.items;
  cut : runs is_block (l.first ∷ l.rest) ≡ runs_from is_block (l.first ∷ take l.i l.rest) (drop l.i l.rest);
}
