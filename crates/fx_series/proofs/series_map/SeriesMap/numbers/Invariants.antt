use Rattle.std.proofs.Common.{◌≡◌, ◌+◌, ◌++◌, length, map}
use Rattle.fx_series.specs.Read.{places, is_in}
use Rattle.fx_series.specs.Held.{shown}
use Rattle.fx_series.proofs.series_map.SeriesMap.numbers.Given as goal

abbrev pub invariant-loop-key : goal.invariant-loop-key
invariant-loop-key l = (l.number + length l.key-iterator ≡ length l.fn.self) × (l.numbers ++ places (is_in l.bucket l.kind) l.number (map shown l.key-iterator) ≡ places (is_in l.bucket l.kind) 0 l.fn.self)
