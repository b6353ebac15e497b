-- How a put answers.
use Rattle.std.specs.Prelude.{◌≡◌, ◌≢◌, ℕ, ℤ, true, false, List, [], ◌∷◌, ◌++◌, Some, Result, Ok, Err, All, slice_get}
use Rattle.fx_value.specs.declared.scalar.Kind.{Kind}
use Rattle.fx_value.specs.declared.scalar.Scalar.{Scalar}
use Rattle.fx_value.specs.Scalar.{kind_of}
use Rattle.fx_line.specs.declared.point.Point.{Point}
use Rattle.fx_line.specs.declared.point.SeriesKey.{SeriesKey}
use Rattle.fx_line.specs.Stored.{StoredPoint, id_of, points_named, kind_of_points, series_of, grouped}
use Rattle.fx_series.specs.declared.fault.PutFault.{PutFault}
use Rattle.fx_series.specs.declared.fault.PutFault.TheVariants as fault
use Rattle.fx_series.specs.Held.{of_kind}
use Rattle.fx_series.specs.Store.{Kept, StandsFor, is_added}

-- each earlier point of the point's name has the point's kind
abbrev pub Agrees : List StoredPoint → StoredPoint → Type 0
Agrees stored s = All (λ p. kind_of p.value ≡ kind_of s.point.value) (points_named (id_of s) stored)

-- the first point of the point's name has the kind `old`, the series of that kind has this number, and the point has another
-- kind, `new`
pub record Conflicts (stored : List StoredPoint) (s : StoredPoint) (number : ℕ) (old new : Kind) : Type 0 where
  pub earlier : kind_of_points (points_named (id_of s) stored) ≡ Some old
  pub series : slice_get (grouped stored) number ≡ Some (series_of stored (of_kind old (id_of s)))
  pub later : kind_of s.point.value ≡ Some new
  pub differ : old ≢ new

-- the answers of a put of a point, by the buckets and the points that were stored before: but for want of memory, the
-- buckets and the points alone tell which of the others comes
abbrev pub Answers : List (List ℕ) → List StoredPoint → StoredPoint → Result (Unit {0}) PutFault → Type 0
Answers buckets stored s (Ok _) = (is_added buckets s.bucket ≡ true) × Agrees stored s
Answers buckets stored s (Err fault.NoBucket) = is_added buckets s.bucket ≡ false
Answers buckets stored s (Err (fault.KindConflict number old new)) = (is_added buckets s.bucket ≡ true) × Conflicts stored s number old new
Answers buckets stored s (Err fault.Memory) = is_added buckets s.bucket ≡ true

-- a point of the series with this key
abbrev pub point_at : SeriesKey → ℤ → Scalar → Point
point_at key time value = record { series = key; time = time; value = value }

-- a point that fits the stored points was put behind them, and a store stands for it
pub record HasPut (buckets : List (List ℕ)) (stored : List StoredPoint) (bucket : List ℕ) (p : Point) (kept : Kept) : Type 0 where
  pub agrees : Agrees stored (record { bucket = bucket; point = p })
  pub stands : StandsFor kept buckets (stored ++ record { bucket = bucket; point = p } ∷ [])
