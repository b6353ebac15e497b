-- The run of a query over stored points: one table for each series that has points in the range.
use Rattle.std.specs.Prelude.{ℕ, ℤ, Bool, true, false, ◌&&◌, not, List, [], ◌∷◌, map, filter, fold, codes, int_le, int_lt, Result, Ok, Err, if◌then◌else◌}
use Rattle.std.specs.FinMap.{FinMap, empty, insert}
use Rattle.fx_base.specs.declared.fault.Fault.{Fault}
use Rattle.fx_base.specs.declared.fault.FaultKind.TheVariants.{NoBucket}
use Rattle.fx_base.specs.Text.{text_cmp}
use Rattle.fx_value.specs.declared.scalar.Kind.TheVariants as kind
use Rattle.fx_value.specs.declared.scalar.Scalar.{Scalar}
use Rattle.fx_value.specs.declared.scalar.Scalar.TheVariants.{Text, Time}
use Rattle.fx_value.specs.declared.source.Source.{Source}
use Rattle.fx_value.specs.declared.source.Source.TheVariants.{Fixed, First, Second}
use Rattle.fx_value.specs.Row.{row_of}
use Rattle.fx_data.specs.declared.table.Table.{Table}
use Rattle.fx_data.specs.Gathered.{gathered}
use Rattle.fx_data.specs.Shared.{key_of}
use Rattle.fx_line.specs.declared.point.SeriesKey.{SeriesKey}
use Rattle.fx_line.specs.declared.point.Tag.{Tag}
use Rattle.fx_line.specs.Stored.{StoredPoint, Series, grouped}
use Rattle.fx_series.specs.Store.{is_added}
use Rattle.fx_series.specs.Read.{is_in}
use Rattle.fx_top.specs.declared.query.Query.{Query}

-- the columns of a row, some with a value that all rows of the table share
abbrev pub Columns : Type 0
Columns = FinMap text_cmp Source

abbrev pub with_shared : Columns → List ℕ → Scalar → Columns
with_shared columns label value = insert columns label (Fixed value)

abbrev pub with_tags : Columns → List Tag → Columns
with_tags = fold (λ columns tag. with_shared columns tag.key (Text tag.value))

-- the names of a series and the bounds of the range stand in each of its rows
abbrev pub named : Query → SeriesKey → Columns
named q key =
    with_shared (with_shared (with_shared (with_shared (with_tags empty key.tags)
    (codes "_field") (Text key.field)) (codes "_measurement") (Text key.measurement)) (codes "_start") (Time q.start)) (codes "_stop") (Time q.stop)

-- and each row has a time and a value of its own
abbrev pub columns_of : Query → SeriesKey → Columns
columns_of q key = insert (insert (named q key) (codes "_time") First) (codes "_value") Second

abbrev pub is_within : ℤ → ℤ → ℤ × Scalar → Bool
is_within start stop v = int_le start v.0 && int_lt v.0 stop

-- the table of a series: its values with start ≤ time < stop, in rising time, under the columns that they share
abbrev pub table_of : Query → Series → Table
table_of q s = record {
  key = key_of (columns_of q s.id.key);
  rows = map (λ v. row_of (columns_of q s.id.key) (Time v.0) v.1) (filter (is_within q.start q.stop) s.values);
}

abbrev pub is_empty : {A : Type 0} → List A → Bool
is_empty [] = true
is_empty (x ∷ xs) = false

abbrev pub has_rows : Table → Bool
has_rows t = not (is_empty t.rows)

-- the tables of the bucket's integer series that have rows
abbrev pub tables_of : Query → List Series → List Table
tables_of q series = gathered (filter has_rows (map (table_of q) (filter (is_in q.bucket kind.Int) series)))

-- what a query yields over stored points, or the fault that its bucket was not added
abbrev pub run_of : Query → List (List ℕ) → List StoredPoint → Result (List Table) Fault
run_of q buckets stored =
    if is_added buckets q.bucket then Ok (tables_of q (grouped stored)) else Err (record { kind = NoBucket; place = q.place })
