-- What is remembered of lines that were stored: their pieces, and the numbers of the series of their fields.
use Rattle.std.specs.Prelude.{◌≡◌, ℕ, ℤ, List, [], ◌∷◌, ◌++◌, length, map, Some, slice_get, All, Result, Ok, Err, Bool, true, false}
use Rattle.std.specs.List.{AllByRecursion}
use Rattle.fx_base.specs.declared.memory.Memory.{Memory}
use Rattle.fx_value.specs.declared.scalar.Kind.TheVariants as kind
use Rattle.fx_line.specs.declared.line.LineMode.{LineMode}
use Rattle.fx_line.specs.declared.point.SeriesKey.{SeriesKey}
use Rattle.fx_line.specs.Pieces.{ArePieces, int_points}
use Rattle.fx_line.specs.Stored.{SeriesId, StoredPoint, IsLawful}
use Rattle.fx_series.specs.Store.{Kept, StandsFor}
use Rattle.fx_load.specs.Load.{PointsLoad, LineLoads}

-- a line's pieces, and a number for each of them
pub record KnownLine : Type 0 where
  pub pieces : List (List ℕ)
  pub numbers : List ℕ

-- the line is one of those that are remembered
abbrev pub IsAmong : List KnownLine → KnownLine → Type 0
IsAmong memo k = (i : ℕ) × (slice_get memo i ≡ Some k)

abbrev pub ids_of : Kept → List SeriesId
ids_of kept = map (λ s. s.id) kept.series

-- these are the numbers of the bucket's integer series of these keys
abbrev pub AreSeries : List SeriesId → List ℕ → List ℕ → List SeriesKey → Type 0
AreSeries ids bucket [] [] = Unit {0}
AreSeries ids bucket (n ∷ ns) (k ∷ ks) = (slice_get ids n ≡ Some (record { bucket = bucket; key = k; kind = Some kind.Int })) × AreSeries ids bucket ns ks
AreSeries ids bucket ns ks = ⊥

-- lines of these pieces give points of the series with these numbers
pub record Fits (mode : LineMode) (bucket : List ℕ) (ids : List SeriesId) (known : KnownLine) : Type 0 where
  pub keys : List SeriesKey
  pub pieces : ArePieces mode known.pieces keys
  pub series : AreSeries ids bucket known.numbers keys

-- all that is remembered holds of the store's series
abbrev pub FitsStore : LineMode → List ℕ → List SeriesId → List KnownLine → Type 0
FitsStore mode bucket ids memo = AllByRecursion (Fits mode bucket ids) memo

-- these values may be put into the series with these numbers
pub record MayPut (kept : Kept) (bucket numbers : List ℕ) (values : List ℤ) (time : ℤ) : Type 0 where
  pub keys : List SeriesKey
  pub series : AreSeries (ids_of kept) bucket numbers keys
  pub lawful : All IsLawful (int_points keys values time)

-- the values were put into the series with these numbers
pub record WerePut (old : Kept) (bucket numbers : List ℕ) (values : List ℤ) (time : ℤ) (new : Kept) : Type 0 where
  pub keys : List SeriesKey
  pub series : AreSeries (ids_of old) bucket numbers keys
  pub put : (buckets : List (List ℕ)) (stored : List StoredPoint) → StandsFor old buckets stored → PointsLoad buckets bucket (int_points keys values time) stored new (Ok tt)

-- a line that is known is stored, and one that is not leaves the store as it was
abbrev pub KnownLoads : LineMode → List (List ℕ) → List ℕ → List ℕ → List StoredPoint → Kept → Kept → Result Bool Memory → Type 0
KnownLoads mode buckets bucket line before old new (Ok true) = LineLoads mode buckets bucket line before new (Ok tt)
KnownLoads mode buckets bucket line before old new (Ok false) = new ≡ old
KnownLoads mode buckets bucket line before old new (Err e) = Unit {0}
