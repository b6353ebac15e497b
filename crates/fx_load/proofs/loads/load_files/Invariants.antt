use Rattle.std.proofs.Common.{◌≡◌, ℕ, List, Some}
use Rattle.fx_base.specs.Outside.{Told}
use Rattle.fx_line.specs.Stored.{StoredPoint}
use Rattle.fx_series.specs.Store.{StandsFor}
use Rattle.fx_load.specs.Loads.{AreReady}
use Rattle.fx_load.proofs.LoadsLemmas.{HasReadFiles}
use Rattle.fx_load.proofs.loads.load_files.Given as goal

abbrev pub invariant-loop-place : goal.invariant-loop-place
invariant-loop-place g l = record {
  ready : AreReady l.store l.loads;
  same : g.F.Files.content l.files ≡ g.F.Files.content l.fn.files;
  faults : g.F.Files.faults l.files ≡ g.F.Files.faults l.fn.files;
  read : (told : Told) (buckets : List (List ℕ)) (stored : List StoredPoint) → g.F.Files.content l.fn.files ≡ Some told → StandsFor l.fn.store buckets stored → HasReadFiles l.mode told buckets l.loads stored l.place l.store;
}
