-- Stored points: what the loaded points of the buckets are, apart from how a store keeps them.
use Rattle.std.specs.Prelude.{◌≡◌, ℕ, ℤ, Bool, true, false, ◌&&◌, not, List, [], ◌∷◌, map, filter, fold, Option, None, Some, nat_eq, All, FitsSigned}
use Rattle.std.specs.Int.{w64}
use Rattle.std.specs.Ordering.{int_cmp}
use Rattle.std.specs.List.{starts_with}
use Rattle.std.specs.List.Sorted.{IsStrictlySortedBy}
use Rattle.std.specs.BTreeMap.{insert_entry}
use Rattle.std.specs.Cmp.Lexicographic.{pointwise}
use Rattle.fx_base.specs.Text.{text_cmp, same_text}
use Rattle.fx_value.specs.declared.scalar.Kind.{Kind}
use Rattle.fx_value.specs.declared.scalar.Kind.TheVariants as kind
use Rattle.fx_value.specs.declared.scalar.Scalar.{Scalar}
use Rattle.fx_value.specs.declared.scalar.Scalar.TheVariants as scalar
use Rattle.fx_value.specs.Scalar.{kind_of}
use Rattle.fx_line.specs.declared.point.Tag.{Tag}
use Rattle.fx_line.specs.declared.point.SeriesKey.{SeriesKey}
use Rattle.fx_line.specs.declared.point.Point.{Point}

-- a value that a point may have: a Boolean, a text, or an integer of 64 bits
abbrev pub IsStorable : Scalar → Type 0
IsStorable scalar.Null = ⊥
IsStorable (scalar.Bool b) = Unit {0}
IsStorable (scalar.Int n) = FitsSigned w64 n
IsStorable (scalar.Text t) = Unit {0}
IsStorable (scalar.Time t) = ⊥

-- what `put` asks of a point: its tags rise strictly by key, none of these keys is one of the engine's own, and its
-- numbers are in the range of their types
pub record IsLawful (p : Point) : Type 0 where
  pub tags : IsStrictlySortedBy text_cmp (map (λ t. t.key) p.series.tags)
  pub keys : All (λ t. starts_with nat_eq t.key (95 ∷ []) ≡ false) p.series.tags
  pub time : FitsSigned w64 p.time
  pub value : IsStorable p.value

abbrev pub same_tag : Tag → Tag → Bool
same_tag a b = same_text a.key b.key && same_text a.value b.value

-- two keys name one series: the same measurement, tags and field
abbrev pub same_series : SeriesKey → SeriesKey → Bool
same_series a b = same_text a.measurement b.measurement && (pointwise same_tag a.tags b.tags && same_text a.field b.field)

-- a point and the bucket into which it was put
pub record StoredPoint : Type 0 where
  pub bucket : List ℕ
  pub point : Point

-- a series holds the points of a kind that have a bucket and a key: these two are its name
pub record SeriesId : Type 0 where
  pub bucket : List ℕ
  pub key : SeriesKey
  pub kind : Option Kind

abbrev pub same_name : SeriesId → SeriesId → Bool
same_name a b = same_text a.bucket b.bucket && same_series a.key b.key

abbrev pub same_kind : Option Kind → Option Kind → Bool
same_kind None None = true
same_kind (Some kind.Bool) (Some kind.Bool) = true
same_kind (Some kind.Int) (Some kind.Int) = true
same_kind (Some kind.Text) (Some kind.Text) = true
same_kind (Some kind.Time) (Some kind.Time) = true
same_kind a b = false

abbrev pub same_id : SeriesId → SeriesId → Bool
same_id a b = same_name a b && same_kind a.kind b.kind

abbrev pub id_of : StoredPoint → SeriesId
id_of s = record { bucket = s.bucket; key = s.point.series; kind = kind_of s.point.value }

-- each series once, in the order in which they first stand
abbrev pub first_seen : List SeriesId → List SeriesId
first_seen [] = []
first_seen (a ∷ rest) = a ∷ filter (λ b. not (same_id a b)) (first_seen rest)

-- the values by rising time; a later point of a time replaces the value
abbrev pub by_time : List Point → List (ℤ × Scalar)
by_time = fold (λ entries p. insert_entry int_cmp entries p.time p.value) []

-- the points of a series, in the order in which they were put
abbrev pub points_of : SeriesId → List StoredPoint → List Point
points_of id stored = map (λ s. s.point) (filter (λ s. same_id id (id_of s)) stored)

-- a series as stored points give it: what it holds, and the values by rising time
pub record Series : Type 0 where
  pub id : SeriesId
  pub values : List (ℤ × Scalar)

abbrev pub series_of : List StoredPoint → SeriesId → Series
series_of stored id = record { id = id; values = by_time (points_of id stored) }

-- all series of stored points, in the order in which their first points were put
abbrev pub grouped : List StoredPoint → List Series
grouped stored = map (series_of stored) (first_seen (map id_of stored))

-- the points under the name of a series, whatever their kinds
abbrev pub points_named : SeriesId → List StoredPoint → List Point
points_named id stored = map (λ s. s.point) (filter (λ s. same_name id (id_of s)) stored)

-- the kind of the first of some points
abbrev pub kind_of_points : List Point → Option Kind
kind_of_points [] = None
kind_of_points (p ∷ rest) = kind_of p.value
