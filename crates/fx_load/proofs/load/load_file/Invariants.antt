use Rattle.std.proofs.Common.{ℕ, ◌+◌, ◌≤◌, List, length}
use Rattle.std.specs.Option.{option_map}
use Rattle.fx_line.specs.Stored.{StoredPoint}
use Rattle.fx_series.specs.Store.{StandsFor}
use Rattle.fx_load.specs.Bytes.{bytes_left}
use Rattle.fx_load.specs.Load.{IsReady}
use Rattle.fx_load.specs.Memo.{ids_of, FitsStore}
use Rattle.fx_load.proofs.LoadLemmas.{HasRead}
use Rattle.fx_load.proofs.load.load_file.Given as goal

abbrev pub invariant-loop-rest : goal.invariant-loop-rest
invariant-loop-rest l = record {
  small : l.number + bytes_left (option_map (λ t. t.now) l.rest) ≤ length l.file + 1;
  ready : IsReady l.store l.bucket;
  fits : FitsStore l.mode l.bucket (ids_of l.store) l.memo;
  read : (buckets : List (List ℕ)) (stored : List StoredPoint) → StandsFor l.initial.store buckets stored → HasRead l.mode buckets l.bucket l.file stored l.number (option_map (λ t. t.now) l.rest) l.store;
}

abbrev pub decreases-loop-rest : goal.decreases-loop-rest
decreases-loop-rest l = bytes_left (option_map (λ t. t.now) l.rest)
