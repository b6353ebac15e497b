-- The tables of stored points.
use Rattle.std.specs.Prelude.{ℤ, Bool, ◌&&◌, List, map, fold, Some, codes, All}
use Rattle.std.specs.FinMap.{empty, entries, insert}
use Rattle.std.specs.List.{filter}
use Rattle.fx_base.specs.Text.{same_text}
use Rattle.fx_value.specs.declared.scalar.Kind.{Kind}
use Rattle.fx_value.specs.declared.scalar.Scalar.{Scalar}
use Rattle.fx_value.specs.declared.scalar.Scalar.TheVariants.{Text, Time}
use Rattle.fx_types.specs.Term.{Label}
use Rattle.fx_data.specs.declared.key.Key.{Key}
use Rattle.fx_data.specs.declared.table.Table.{Table}
use Rattle.fx_data.specs.Gathered.{gathered}
use Rattle.fx_data.specs.Shared.{column_entry}
use Rattle.fx_line.specs.declared.point.SeriesKey.{SeriesKey}
use Rattle.fx_line.specs.declared.point.Tag.{Tag}
use Rattle.fx_line.specs.Stored.{IsLawful, Series, StoredPoint, grouped, same_kind}
use Rattle.fx_meaning.specs.Rows.{Row}

pub record Stored : Type 0 where
  -- the buckets that were added, also those without points
  pub buckets : List Label
  -- the points that were put, in order
  pub points : List StoredPoint

abbrev pub AreLawful : Stored → Type 0
AreLawful stored = All (λ s. IsLawful s.point) stored.points

abbrev pub with_tags : Row → List Tag → Row
with_tags = fold (λ row tag. insert row tag.key (Text tag.value))

-- the columns that name a series, over what else stands in a row
abbrev pub named : SeriesKey → Row → Row
named key row = insert (insert row (codes "_field") (Text key.field)) (codes "_measurement") (Text key.measurement)

-- the row of a time and a value
abbrev pub row_at : SeriesKey → ℤ × Scalar → Row
row_at key v = named key (insert (insert (with_tags empty key.tags) (codes "_value") v.1) (codes "_time") (Time v.0))

abbrev pub key_of : SeriesKey → Key
key_of key = record { entries = map column_entry (entries (named key (with_tags empty key.tags))) }

-- a series by rising time, under the columns that name it
abbrev pub series_table : Series → Table
series_table s = record { key = key_of s.id.key; rows = map (row_at s.id.key) s.values }

abbrev pub is_wanted : Kind → Label → Series → Bool
is_wanted kind bucket s = same_text bucket s.id.bucket && same_kind (Some kind) s.id.kind

-- one table for each of the bucket's series of the kind, in key order
unfoldable pub source_tables : Kind → Label → List StoredPoint → List Table
source_tables kind bucket points = gathered (map series_table (filter (is_wanted kind bucket) (grouped points)))
