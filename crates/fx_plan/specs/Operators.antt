-- What operators make of tables: their arguments, their words, and the tables.
use Rattle.std.specs.Prelude.{ℕ, ◌+◌, ℤ, pos, int_le, Bool, List, [], ◌∷◌, length, Option, None, Some, codes, if◌then◌else◌, false, true}
use Rattle.std.specs.FinMap.{empty}
use Rattle.fx_base.specs.Text.{same_text}
use Rattle.fx_base.specs.declared.fault.FaultKind.{FaultKind}
use Rattle.fx_base.specs.declared.fault.FaultKind.TheVariants.{BadCount, BadWindow, NoBucket, NullArgument, TimeRange}
use Rattle.fx_base.specs.declared.place.Place.{Place}
use Rattle.fx_time.specs.Spans.{span_after}
use Rattle.fx_time.specs.declared.span.Span.{Span}
use Rattle.fx_value.specs.Ends.{End, Gives, Faults, Stuck}
use Rattle.fx_value.specs.declared.scalar.Kind.{Kind}
use Rattle.fx_value.specs.declared.scalar.Kind.TheVariants as kind
use Rattle.fx_value.specs.declared.scalar.Scalar.{Scalar}
use Rattle.fx_value.specs.declared.scalar.Scalar.TheVariants as scalar
use Rattle.fx_types.specs.Ground.{listed}
use Rattle.fx_types.specs.Term.{Label}
use Rattle.fx_data.specs.declared.table.Table.{Table}
use Rattle.fx_agg.specs.Aggregate.{aggregated}
use Rattle.fx_agg.specs.Distinct.{distinguished}
use Rattle.fx_agg.specs.Reduce.{reduced}
use Rattle.fx_agg.specs.declared.agg.Agg.{Agg}
use Rattle.fx_agg.specs.declared.agg.Agg.TheVariants.{Count, First, Last, Max, Min, Spread, Sum}
use Rattle.fx_group.specs.Filter.{filtered, table_if}
use Rattle.fx_group.specs.Group.{grouped_by, grouped_except}
use Rattle.fx_group.specs.Map.{mapped}
use Rattle.fx_group.specs.Range.{ranged}
use Rattle.fx_group.specs.Union.{united}
use Rattle.fx_join.specs.Joined.{joined}
use Rattle.fx_join.specs.SameTime.{joined_by_time}
use Rattle.fx_join.specs.declared.side.Side.{Side}
use Rattle.fx_join.specs.declared.side.Side.TheVariants.{Full, Inner, Left, Right}
use Rattle.fx_pivot.specs.Pivot.{pivoted}
use Rattle.fx_shape.specs.Columns.{column_doubled, column_filled, column_set}
use Rattle.fx_shape.specs.Keep.{columns_dropped, columns_kept}
use Rattle.fx_shape.specs.Rename.{columns_renamed}
use Rattle.fx_shape.specs.Running.{cumulated, differenced, passed}
use Rattle.fx_shape.specs.Sort.{rows_sorted}
use Rattle.fx_shape.specs.Part.{limited, tailed}
use Rattle.fx_window.specs.Aggregated.{window_aggregated}
use Rattle.fx_window.specs.Cut.{cut_size}
use Rattle.fx_window.specs.Lengths.{is_length}
use Rattle.fx_window.specs.Window.{windowed}
use Rattle.fx_schemes.specs.declared.given.LabelWords.{LabelWords}
use Rattle.fx_schemes.specs.Given.{Given, is_one_of, list_at, text_at as word_at, words_at}
use Rattle.fx_meaning.specs.declared.stream.StreamFn.{StreamFn}
use Rattle.fx_meaning.specs.declared.stream.StreamFn.TheVariants as s
use Rattle.fx_meaning.specs.Ends.{◌>>=◌, fault_at, found, pure}
use Rattle.fx_meaning.specs.Forms.{argument, cell_of, each, fields_in, items_of, span_in, val_list}
use Rattle.fx_meaning.specs.Meaning.{Tests}
use Rattle.fx_meaning.specs.Rows.{Row, row_from, row_meaning}
use Rattle.fx_meaning.specs.Value.{Val, cell, span, Slots, look}
use Rattle.fx_plan.specs.Sources.{Stored, source_tables}

-- ---- arguments

abbrev pub no_argument : {A : Type 0} → Place → FaultKind → End A
no_argument place kind = Faults (fault_at place kind) 0

abbrev pub text_at : Place → Val → End Label
text_at place (cell (scalar.Text t)) = pure t
text_at place (cell scalar.Null) = no_argument place NullArgument
text_at place _ = Stuck

abbrev pub in_time : Place → Option ℤ → End ℤ
in_time place (Some t) = pure t
in_time place None = no_argument place TimeRange

-- a bound of a range: a time, or a duration from the moment
abbrev pub bound_at : Place → ℤ → Val → End ℤ
bound_at place now (cell (scalar.Time t)) = pure t
bound_at place now (cell scalar.Null) = no_argument place NullArgument
bound_at place now (span d) = in_time place (span_after now d)
bound_at place now _ = Stuck

-- the moment, as a call of `range` keeps it
abbrev pub moment_in : Val → End ℤ
moment_in (cell (scalar.Time t)) = pure t
moment_in _ = Stuck

abbrev pub moment_of : Slots → End ℤ
moment_of args = argument (codes "now") args >>= moment_in

-- the moment, where no argument is given
abbrev pub bound_or_now : Place → ℤ → Option Val → End ℤ
bound_or_now place now None = pure now
bound_or_now place now (Some v) = bound_at place now v

-- a number of rows, which isn't negative
abbrev pub count_at : Place → Val → End ℤ
count_at place (cell (scalar.Int n)) = if int_le (pos 0) n then pure n else no_argument place BadCount
count_at place (cell scalar.Null) = no_argument place NullArgument
count_at place _ = Stuck

abbrev pub count_or_none : Place → Option Val → End ℤ
count_or_none place None = pure (pos 0)
count_or_none place (Some v) = count_at place v

-- a Boolean, and what it is where it isn't given
abbrev pub flag_at : Place → Val → End Bool
flag_at place (cell (scalar.Bool b)) = pure b
flag_at place (cell scalar.Null) = no_argument place NullArgument
flag_at place _ = Stuck

abbrev pub flag_or : Bool → Place → Option Val → End Bool
flag_or default place None = pure default
flag_or default place (Some v) = flag_at place v

abbrev pub flag_or_false : Place → Option Val → End Bool
flag_or_false = flag_or false

-- a duration, and what it is where it isn't given
abbrev pub span_or : Span → Option Val → End Span
span_or default None = pure default
span_or default (Some v) = span_in v

-- a length of windows
abbrev pub length_at : Place → Val → End Span
length_at place v = span_in v >>= (λ d. if is_length d then pure d else no_argument place BadWindow)

-- ---- operators

-- of no input, and of one

abbrev pub of_none : End (List Table) → List (List Table) → End (List Table)
of_none made [] = made
of_none made _ = Stuck

abbrev pub of_one : (List Table → End (List Table)) → List (List Table) → End (List Table)
of_one made (ts ∷ []) = made ts
of_one made _ = Stuck

abbrev pub of_two : (List Table → List Table → End (List Table)) → List (List Table) → End (List Table)
of_two made (ls ∷ rs ∷ []) = made ls rs
of_two made _ = Stuck

-- the bucket's tables of the kind
abbrev pub bucket_tables : Stored → Kind → Place → Label → End (List Table)
bucket_tables stored kind place bucket = if listed bucket stored.buckets then pure (source_tables kind bucket stored.points) else no_argument place NoBucket

abbrev pub from_bucket : Stored → Kind → Place → Slots → End (List Table)
from_bucket stored kind place args = do
  v ← argument (codes "bucket") args
  bucket ← text_at place v
  bucket_tables stored kind place bucket

-- a record of scalars as a row
abbrev pub row_in : Val → End Row
row_in v = fields_in v >>= row_from empty

-- one table with an empty key, none without rows
abbrev pub from_array : Slots → End (List Table)
from_array args = do
  vs ← items_of (codes "rows") args
  rows ← each row_in (val_list vs)
  pure (table_if (record { entries = [] }) rows)

abbrev pub in_range : Place → Slots → List Table → End (List Table)
in_range place args tables = do
  now ← moment_of args
  v ← argument (codes "start") args
  start ← bound_at place now v
  stop ← bound_or_now place now (look (codes "stop") args)
  ranged start stop tables

-- no word but "drop" is known for what becomes of a table without rows
abbrev pub drops : Given → Bool
drops w = is_one_of w (codes "onEmpty") (codes "drop") (codes "drop" ∷ [])

-- the words of `mode`
abbrev pub grouped_in : Label → List Label → List Table → End (List Table)
grouped_in mode columns tables =
    if same_text mode (codes "by") then pure (grouped_by columns tables) else (if same_text mode (codes "except") then pure (grouped_except columns tables) else Stuck)

abbrev pub in_groups : Given → List Table → End (List Table)
in_groups w tables = do
  columns ← found (list_at w (codes "columns") (Some []))
  mode ← found (word_at w (codes "mode") (Some (codes "by")))
  grouped_in mode columns tables

-- `limit` and `tail`
abbrev pub of_places : (Place → ℤ → ℤ → List Table → End (List Table)) → Place → Slots → List Table → End (List Table)
of_places part place args tables = do
  v ← argument (codes "n") args
  n ← count_at place v
  offset ← count_or_none place (look (codes "offset") args)
  part place n offset tables

-- `keep` and `drop`
abbrev pub of_columns : (List Label → List Table → List Table) → Given → List Table → End (List Table)
of_columns made w tables = do
  columns ← found (list_at w (codes "columns") None)
  pure (made columns tables)

-- `set` and `fill`, at the word of the column
abbrev pub with_value : (Label → Scalar → List Table → List Table) → Option Label → Slots → List Table → End (List Table)
with_value made column args tables = do
  label ← found column
  value ← cell_of (codes "value") args
  pure (made label value tables)

-- what works on one column, at its word
abbrev pub at_column : (Label → List Table → End (List Table)) → Given → List Table → End (List Table)
at_column made w tables = do
  column ← found (word_at w (codes "column") (Some (codes "_value")))
  made column tables

-- what works on the one column that is listed
abbrev pub at_listed : (Label → List Table → End (List Table)) → Given → List Table → End (List Table)
at_listed made w tables = do
  column ← found (word_at w (codes "columns") (Some (codes "_value")))
  made column tables

abbrev pub doubled_in : Given → List Table → End (List Table)
doubled_in w tables = do
  column ← found (word_at w (codes "column") None)
  copy ← found (word_at w (codes "as") None)
  pure (column_doubled column copy tables)

abbrev pub sorted_in : Given → Place → Slots → List Table → End (List Table)
sorted_in w place args tables = do
  columns ← found (list_at w (codes "columns") (Some (codes "_value" ∷ [])))
  desc ← flag_or_false place (look (codes "desc") args)
  pure (rows_sorted columns desc tables)

-- the words of `method`
abbrev pub side_named : Label → Option Side
side_named method =
    if same_text method (codes "inner") then Some Inner
    else (if same_text method (codes "left") then Some Left else (if same_text method (codes "right") then Some Right else (if same_text method (codes "full") then Some Full else None)))

-- the words of `columns`: olds and news
abbrev pub renamed_by : Option LabelWords → List Table → End (List Table)
renamed_by None tables = Stuck
renamed_by (Some g) tables = pure (columns_renamed g.words g.news tables)

abbrev pub renamed_in : Given → List Table → End (List Table)
renamed_in w tables = renamed_by (words_at w (codes "columns")) tables

abbrev pub second : Span
second = record { months = pos 0; nanos = pos 1_000_000_000 }

abbrev pub passed_in : Given → Place → Slots → List Table → End (List Table)
passed_in w place args tables = do
  unit ← span_or second (look (codes "unit") args)
  time ← found (word_at w (codes "timeColumn") (Some (codes "_time")))
  name ← found (word_at w (codes "columnName") (Some (codes "elapsed")))
  passed place unit time name tables

abbrev pub pivoted_in : Given → Place → List Table → End (List Table)
pivoted_in w place tables = do
  rows ← found (list_at w (codes "rowKey") None)
  columns ← found (list_at w (codes "columnKey") None)
  value ← found (word_at w (codes "valueColumn") None)
  pivoted place rows columns value tables

-- ---- windows, which cost ticks of their own

abbrev pub row_count : List Table → ℕ
row_count [] = 0
row_count (t ∷ ts) = length t.rows + row_count ts

-- one for each row that is made
abbrev pub in_windows : Place → Slots → List Table → End (List Table)
in_windows place args tables = do
  v ← argument (codes "every") args
  every ← span_in v
  period ← span_or every (look (codes "period") args)
  made ← windowed place every period tables
  Gives made (row_count made)

-- the words of `fn`
abbrev pub aggregate_among : Label → List (Label × Agg) → Option Agg
aggregate_among name [] = None
aggregate_among name ((label, which) ∷ others) = if same_text name label then Some which else aggregate_among name others

abbrev pub aggregate_named : Label → Option Agg
aggregate_named name =
    aggregate_among name
    ((codes "count", Count) ∷ (codes "first", First) ∷ (codes "last", Last) ∷ (codes "max", Max) ∷ (codes "min", Min) ∷ (codes "spread", Spread) ∷ (codes "sum", Sum) ∷ [])

-- how many windows tables are cut into
abbrev pub window_count : Span → Bool → List Table → End ℕ
window_count every all [] = pure 0
window_count every all (t ∷ ts) = do
  n ← cut_size every all t
  m ← window_count every all ts
  pure (n + m)

-- one for each window, before the aggregate is made of any
abbrev pub windows_counted : Span → Bool → List Table → End ℕ
windows_counted every all tables = window_count every all tables >>= (λ n. Gives n n)

abbrev pub by_windows : Given → Place → Slots → List Table → End (List Table)
by_windows w place args tables = do
  v ← argument (codes "every") args
  every ← length_at place v
  name ← found (word_at w (codes "fn") None)
  which ← found (aggregate_named name)
  all ← flag_or true place (look (codes "createEmpty") args)
  windows ← windows_counted every all tables
  window_aggregated place (aggregated place which (codes "_value")) every all tables

module _ (test : Tests) (stored : Stored) where
  abbrev pub of_wanted_rows : Given → Slots → List Table → ℕ → End (List Table)
  of_wanted_rows w args tables limit =
      if drops w then (argument (codes "fn") args >>= (λ f. filtered (row_meaning test f) tables limit)) else Stuck

  abbrev pub of_made_rows : Slots → List Table → ℕ → End (List Table)
  of_made_rows args tables limit = argument (codes "fn") args >>= (λ f. mapped (row_meaning test f) tables limit)

  abbrev pub of_folded_rows : Slots → List Table → ℕ → End (List Table)
  of_folded_rows args tables limit = do
    v ← argument (codes "identity") args
    identity ← row_in v
    f ← argument (codes "fn") args
    reduced (row_meaning test f) identity tables limit

  abbrev pub of_pairs : Side → Slots → ℕ → List Table → List Table → End (List Table)
  of_pairs side args limit ls rs = do
    on ← argument (codes "on") args
    both ← argument (codes "as") args
    joined (row_meaning test on) (row_meaning test both) side ls rs limit

  abbrev pub of_times : Given → Slots → ℕ → List Table → List Table → End (List Table)
  of_times w args limit ls rs = do
    method ← found (word_at w (codes "method") (Some (codes "inner")))
    side ← found (side_named method)
    both ← argument (codes "as") args
    joined_by_time (row_meaning test both) side ls rs limit

  -- what an operator makes of the tables of its inputs, with the words that its arguments say. It calls functions of rows
  -- under the limit. A yield makes no tables: it shows those of a stream
  abbrev pub operator : StreamFn → Place → Given → Slots → ℕ → List (List Table) → End (List Table)
  operator s.From place w args limit = of_none (from_bucket stored kind.Int place args)
  operator s.Texts place w args limit = of_none (from_bucket stored kind.Text place args)
  operator s.Bools place w args limit = of_none (from_bucket stored kind.Bool place args)
  operator s.ArrayFrom place w args limit = of_none (from_array args)
  operator s.Range place w args limit = of_one (in_range place args)
  operator s.Filter place w args limit = of_one (λ tables. of_wanted_rows w args tables limit)
  operator s.Map place w args limit = of_one (λ tables. of_made_rows args tables limit)
  operator s.Group place w args limit = of_one (in_groups w)
  operator s.Union place w args limit = λ received. pure (united received)
  operator s.Limit place w args limit = of_one (of_places limited place args)
  operator s.Tail place w args limit = of_one (of_places tailed place args)
  operator s.Keep place w args limit = of_one (of_columns columns_kept w)
  operator s.DropColumns place w args limit = of_one (of_columns columns_dropped w)
  operator s.Set place w args limit = of_one (with_value column_set (word_at w (codes "key") None) args)
  operator s.Fill place w args limit = of_one (with_value column_filled (word_at w (codes "column") (Some (codes "_value"))) args)
  operator s.Duplicate place w args limit = of_one (doubled_in w)
  operator s.Min place w args limit = of_one (at_column (aggregated place Min) w)
  operator s.Max place w args limit = of_one (at_column (aggregated place Max) w)
  operator s.First place w args limit = of_one (at_column (aggregated place First) w)
  operator s.Last place w args limit = of_one (at_column (aggregated place Last) w)
  operator s.Reduce place w args limit = of_one (λ tables. of_folded_rows args tables limit)
  operator s.JoinInner place w args limit = of_two (of_pairs Inner args limit)
  operator s.JoinLeft place w args limit = of_two (of_pairs Left args limit)
  operator s.JoinRight place w args limit = of_two (of_pairs Right args limit)
  operator s.JoinFull place w args limit = of_two (of_pairs Full args limit)
  operator s.JoinTime place w args limit = of_two (of_times w args limit)
  operator s.Sort place w args limit = of_one (sorted_in w place args)
  operator s.Rename place w args limit = of_one (renamed_in w)
  operator s.Window place w args limit = of_one (in_windows place args)
  operator s.AggregateWindow place w args limit = of_one (by_windows w place args)
  operator s.Count place w args limit = of_one (at_column (aggregated place Count) w)
  operator s.Sum place w args limit = of_one (at_column (aggregated place Sum) w)
  operator s.Spread place w args limit = of_one (at_column (aggregated place Spread) w)
  operator s.Distinct place w args limit = of_one (at_column (λ column tables. pure (distinguished column tables)) w)
  operator s.Difference place w args limit = of_one (at_listed (differenced place) w)
  operator s.CumulativeSum place w args limit = of_one (at_listed (cumulated place) w)
  operator s.Elapsed place w args limit = of_one (passed_in w place args)
  operator s.Pivot place w args limit = of_one (pivoted_in w place)
  operator s.Yield place w args limit = λ received. Stuck
