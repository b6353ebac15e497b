-- What a store keeps, and the stored points that it stands for.
use Rattle.std.specs.Prelude.{◌≡◌, ℕ, Bool, true, List, [], ◌∷◌, ◌++◌, length, All, if◌then◌else◌}
use Rattle.std.specs.List.{list_any}
use Rattle.fx_base.specs.Text.{same_text}
use Rattle.fx_value.specs.Scalar.{kind_of}
use Rattle.fx_line.specs.Stored.{IsLawful, StoredPoint, SeriesId, Series, points_named, kind_of_points, grouped}

-- what a store keeps: its buckets in the order in which they were added, its series as they now stand in the order in
-- which their first points were put, and how many puts it accepted
pub record Kept : Type 0 where
  pub buckets : List (List ℕ)
  pub series : List Series
  pub puts : ℕ

-- whether a bucket of this name was added
abbrev pub is_added : List (List ℕ) → List ℕ → Bool
is_added buckets name = list_any (same_text name) buckets

-- the buckets after one is added: it goes to the end, unless it is there
abbrev pub with_bucket : List (List ℕ) → List ℕ → List (List ℕ)
with_bucket buckets name = if is_added buckets name then buckets else buckets ++ name ∷ []

-- the points of each name are of one kind
abbrev pub AreOfOneKind : List StoredPoint → Type 0
AreOfOneKind stored = (id : SeriesId) → All (λ p. kind_of p.value ≡ kind_of_points (points_named id stored)) (points_named id stored)

-- a store keeps just these buckets and these stored points
pub record StandsFor (kept : Kept) (buckets : List (List ℕ)) (stored : List StoredPoint) : Type 0 where
  pub buckets_are : kept.buckets ≡ buckets
  pub series_are : kept.series ≡ grouped stored
  pub puts_are : kept.puts ≡ length stored
  pub added : All (λ s. is_added buckets s.bucket ≡ true) stored
  pub lawful : All (λ s. IsLawful s.point) stored
  pub one_kind : AreOfOneKind stored
