-- The built-ins, each as the set of its lines at the words that a call gives at its label arguments.
-- R is the row of the input, and any row that makes the line a type may stand for it, and for Q, S, A.
-- `docs/builtins.md` has the same lines as a table.
use Rattle.std.specs.Prelude.{◌≡◌, Bool, true, false, List, [], ◌∷◌, Option, None, Some, codes, length, if◌then◌else◌, ◌==◌, ◌&&◌, not}
use Rattle.fx_types.specs.Term.{Label}
use Rattle.fx_types.specs.Ground.{Ground, GroundRow, g_bool, g_int, g_text, g_time, g_span, g_done, g_array, g_fun, g_rec, g_stream, g_absent, g_is, listed}
use Rattle.fx_types.specs.Kinds.{IsAmong}
use Rattle.fx_value.specs.declared.scalar.Kind.TheVariants as kind
use Rattle.fx_schemes.specs.declared.list.Builtin.{Builtin}
use Rattle.fx_schemes.specs.declared.list.Builtin.TheVariants as b
use Rattle.fx_schemes.specs.declared.fold.Fold.{Fold}
use Rattle.fx_schemes.specs.declared.fold.Fold.TheVariants as fold
use Rattle.fx_schemes.specs.declared.given.LabelWords as given
use Rattle.fx_schemes.specs.Folds.{fold_of}
use Rattle.fx_schemes.specs.Given.{Given, words_at, is_one_of, IsWord, IsWordOr, AreWords, AreWordsOr}
use Rattle.fx_schemes.specs.Line.{Line, put, take_out, Has, HasAll, EachIs, kept, without, named, HasBounds, stored, IsKind, IsMoment, parameters, value, call, piped, from_tables, of_row, of_rows}

-- what aggregates and selectors make of R at the column x

-- R[x: C] to R{_time: Absent}{x: int}
abbrev pub Counts : Label → GroundRow → GroundRow → Type 0
Counts x r q = (c : Ground) × IsKind c × Has r x c × (q ≡ put x g_int (take_out (codes "_time") r))

-- R[x: int] to R{_time: Absent}{x: int}
abbrev pub Sums : Label → GroundRow → GroundRow → Type 0
Sums x r q = Has r x g_int × (q ≡ put x g_int (take_out (codes "_time") r))

-- R[x: int or time] to R
abbrev pub Extremes : Label → GroundRow → GroundRow → Type 0
Extremes x r q = (c : Ground) × IsAmong (kind.Int ∷ kind.Time ∷ []) false c × Has r x c × (q ≡ r)

-- R[x: C] to R
abbrev pub Ends : Label → GroundRow → GroundRow → Type 0
Ends x r q = (c : Ground) × IsKind c × Has r x c × (q ≡ r)

-- R[x: C] to R{_time: Absent}{_value: C}
abbrev pub Distincts : Label → GroundRow → GroundRow → Type 0
Distincts x r q = (c : Ground) × IsKind c × Has r x c × (q ≡ put (codes "_value") c (take_out (codes "_time") r))

-- of the function with this name
abbrev pub Folds : Option Fold → Label → GroundRow → GroundRow → Type 0
Folds None x r q = ⊥
Folds (Some fold.Count) x r q = Counts x r q
Folds (Some fold.Sum) x r q = Sums x r q
Folds (Some fold.Extreme) x r q = Extremes x r q
Folds (Some fold.End) x r q = Ends x r q

-- (tables=<-: stream of R, column'=x) => stream of what is made of R
abbrev pub AtColumn : (Label → GroundRow → GroundRow → Type 0) → Label → Line → Type 0
AtColumn Makes x L =
    (r : GroundRow) × (q : GroundRow) × Makes x r q × (L ≡ from_tables r (codes "column" ∷ []) [] [] (g_stream q))

-- the same at the word, which is "_value" where it is left out
abbrev pub OfColumn : (Label → GroundRow → GroundRow → Type 0) → Given → Line → Type 0
OfColumn Makes w L = (x : Label) × IsWordOr w (codes "column") (codes "_value") x × AtColumn Makes x L

-- (tables=<-: stream of R[_time, _start, _stop: time], every: duration, fn', createEmpty: bool)
-- => stream of what is made of R at _value, with _time: time
abbrev pub OfWindows : (Label → GroundRow → GroundRow → Type 0) → Line → Type 0
OfWindows Makes L =
    (r : GroundRow) × (q : GroundRow) × HasBounds r × Makes (codes "_value") r q
    × (L ≡ from_tables r (codes "fn" ∷ []) ((codes "every", g_span) ∷ []) ((codes "createEmpty", g_bool) ∷ []) (g_stream (put (codes "_time") g_time q)))

-- (bucket: string) => stream of what is stored under the kind
abbrev pub OfBucket : Ground → Line → Type 0
OfBucket k L = L ≡ call ((codes "bucket", g_text) ∷ []) [] (g_stream (stored k))

-- (tables=<-: stream of R, n: int, offset: int) => stream of R
abbrev pub OfPart : Line → Type 0
OfPart L = (r : GroundRow) × (L ≡ from_tables r [] ((codes "n", g_int) ∷ []) ((codes "offset", g_int) ∷ []) (g_stream r))

-- (tables=<-: stream of R[x: int], columns'=["_value"]) => stream of R, where x is the one column
abbrev pub OfSteps : Given → Line → Type 0
OfSteps w L =
    (x : Label) × IsWordOr w (codes "columns") (codes "_value") x
    × ((r : GroundRow) × Has r x g_int × (L ≡ from_tables r (codes "columns" ∷ []) [] [] (g_stream r)))

-- (tables=<-: stream of R, fn: (r: R) => bool, onEmpty') => stream of R
abbrev pub OfRows : Line → Type 0
OfRows L = (r : GroundRow) × (L ≡ from_tables r (codes "onEmpty" ∷ []) ((codes "fn", of_row r g_bool) ∷ []) [] (g_stream r))

-- (left=<-: stream of R[_time: time], right: stream of S[_time: time], as: (l: R, r: S) => Q, method') => stream of Q
abbrev pub OfTimes : Line → Type 0
OfTimes L =
    (r : GroundRow) × Has r (codes "_time") g_time × (s : GroundRow) × Has s (codes "_time") g_time × (q : GroundRow)
    × (L ≡ piped (codes "left") r (codes "method" ∷ []) ((codes "right", g_stream s) ∷ (codes "as", of_rows r s (g_rec q)) ∷ []) [] (g_stream q))

-- (left=<-: stream of R, right: stream of S, on: (l: R, r: S) => bool, as: (l: R, r: S) => Q) => stream of Q
abbrev pub OfSides : Line → Type 0
OfSides L =
    (r : GroundRow) × (s : GroundRow) × (q : GroundRow)
    × (L ≡ piped (codes "left") r [] ((codes "right", g_stream s) ∷ (codes "on", of_rows r s g_bool) ∷ (codes "as", of_rows r s (g_rec q)) ∷ []) [] (g_stream q))

-- (v: C) => t
abbrev pub OfKind : Ground → Line → Type 0
OfKind t L = (c : Ground) × IsKind c × (L ≡ call ((codes "v", c) ∷ []) [] t)

-- (v: string, x: string) => t
abbrev pub OfTexts : Label → Ground → Line → Type 0
OfTexts x t L = L ≡ call ((codes "v", g_text) ∷ (x, g_text) ∷ []) [] t

-- (t: time) => int
abbrev pub OfTime : Line → Type 0
OfTime L = L ≡ call ((codes "t", g_time) ∷ []) [] g_int

-- (d: duration, x: time) => time
abbrev pub OfSpan : Label → Line → Type 0
OfSpan x L = L ≡ call ((codes "d", g_span) ∷ (x, g_time) ∷ []) [] g_time

-- (tables=<-: stream of R, columns', mode') => stream of R, each column present
abbrev pub OfGroup : List Label → Line → Type 0
OfGroup xs L = (r : GroundRow) × HasAll r xs × (L ≡ from_tables r (codes "columns" ∷ codes "mode" ∷ []) [] [] (g_stream r))

-- (tables=<-: stream of R, columns', desc: bool) => stream of R, each column present
abbrev pub OfSort : List Label → Line → Type 0
OfSort xs L = (r : GroundRow) × HasAll r xs × (L ≡ from_tables r (codes "columns" ∷ []) [] ((codes "desc", g_bool) ∷ []) (g_stream r))

-- (tables=<-: stream of R, columns') => stream of the listed fields, each present
abbrev pub OfKeep : List Label → Line → Type 0
OfKeep xs L = (r : GroundRow) × HasAll r xs × (L ≡ from_tables r (codes "columns" ∷ []) [] [] (g_stream (kept xs r g_absent)))

-- (tables=<-: stream of R, columns') => stream of R with the listed Absent
abbrev pub OfDrop : List Label → Line → Type 0
OfDrop xs L = (r : GroundRow) × (L ≡ from_tables r (codes "columns" ∷ []) [] [] (g_stream (without xs r)))

-- (tables=<-: stream of R, columns') => stream of R with the olds, each present, Absent, and then the news of their types
abbrev pub OfRename : List Label → List Label → Line → Type 0
OfRename olds news L =
    (r : GroundRow) × HasAll r olds × (L ≡ from_tables r (codes "columns" ∷ []) [] [] (g_stream (named olds news r (without olds r))))

-- (tables=<-: stream of R[z: C], rowKey'=xs, columnKey'=ys, valueColumn'=z) => stream of the fields xs, each present, and C
-- elsewhere; each of ys is a string
abbrev pub OfPivot : List Label → List Label → Label → Line → Type 0
OfPivot xs ys z L =
    (r : GroundRow) × HasAll r xs × EachIs r ys g_text × (c : Ground) × IsKind c × Has r z c
    × (L ≡ from_tables r (codes "rowKey" ∷ codes "columnKey" ∷ codes "valueColumn" ∷ []) [] [] (g_stream (kept xs r (g_is c))))

-- the listed words of `mode` and of `method`
abbrev pub IsMode : Given → Type 0
IsMode w = is_one_of w (codes "mode") (codes "by") (codes "by" ∷ codes "except" ∷ []) ≡ true

abbrev pub IsMethod : Given → Type 0
IsMethod w = is_one_of w (codes "method") (codes "inner") (codes "inner" ∷ codes "left" ∷ codes "right" ∷ codes "full" ∷ []) ≡ true

-- no label of the first list is in the second
abbrev pub apart : List Label → List Label → Bool
apart [] ys = true
apart (x ∷ xs) ys = if listed x ys then false else apart xs ys

-- no label is in two of what `pivot` takes
abbrev pub are_apart : List Label → List Label → Label → Bool
are_apart xs ys z = apart xs ys && (not (listed z xs) && not (listed z ys))

-- without repeats
abbrev pub differ : List Label → Bool
differ [] = true
differ (x ∷ xs) = if listed x xs then false else differ xs

-- the olds and the news of `rename`: as many, and each without repeats
abbrev pub are_names : List Label → List Label → Bool
are_names olds news = (length olds == length news) && (differ olds && differ news)

unfoldable pub IsLine : Builtin → Given → Line → Type 0
-- sources

IsLine b.From w L = OfBucket g_int L
IsLine b.Texts w L = OfBucket g_text L
IsLine b.Bools w L = OfBucket g_bool L
-- (rows: array of Q) => stream of Q
IsLine b.ArrayFrom w L = (q : GroundRow) × (L ≡ call ((codes "rows", g_array (g_rec q)) ∷ []) [] (g_stream q))
-- rows and groups

-- (tables=<-: stream of R[_time: time], start: moment, stop: moment) => stream of R{_start, _stop: time}
IsLine b.Range w L =
    (r : GroundRow) × Has r (codes "_time") g_time × (start : Ground) × IsMoment start × (stop : Ground) × IsMoment stop
    × (L ≡ from_tables r [] ((codes "start", start) ∷ []) ((codes "stop", stop) ∷ []) (g_stream (put (codes "_start") g_time (put (codes "_stop") g_time r))))
-- onEmpty'="drop", of which no other word is known yet
IsLine b.Filter w L = (is_one_of w (codes "onEmpty") (codes "drop") (codes "drop" ∷ []) ≡ true) × OfRows L
-- (tables=<-: stream of R, fn: (r: R) => Q) => stream of Q
IsLine b.Map w L =
    (r : GroundRow) × (q : GroundRow) × (L ≡ from_tables r [] ((codes "fn", of_row r (g_rec q)) ∷ []) [] (g_stream q))
-- columns'=[], mode'="by"
IsLine b.Group w L =
    IsMode w × ((xs : List Label) × AreWordsOr w (codes "columns") [] xs × OfGroup xs L)
-- (tables: array of streams of R) => stream of R
IsLine b.Union w L = (r : GroundRow) × (L ≡ call ((codes "tables", g_array (g_stream r)) ∷ []) [] (g_stream r))
-- (tables=<-: stream of R[_time, _start, _stop: time], every: duration, period: duration) => stream of R
IsLine b.Window w L =
    (r : GroundRow) × HasBounds r
    × (L ≡ from_tables r [] ((codes "every", g_span) ∷ []) ((codes "period", g_span) ∷ []) (g_stream r))
-- the same, where the function of the word `fn` makes it
IsLine b.AggregateWindow w L =
    (f : Label) × IsWord w (codes "fn") f × OfWindows (Folds (fold_of f)) L
-- (tables=<-: stream of R, identity: A, fn: (r: R, accumulator: A) => A) => stream of A
IsLine b.Reduce w L =
    (r : GroundRow) × (a : GroundRow)
    × (L ≡ from_tables r [] ((codes "identity", g_rec a) ∷ (codes "fn", g_fun (parameters ((codes "r", g_rec r) ∷ (codes "accumulator", g_rec a) ∷ [])) g_absent (g_rec a)) ∷ []) [] (g_stream a))
-- (tables=<-: stream of R, name: string) => done
IsLine b.Yield w L = (r : GroundRow) × (L ≡ from_tables r [] [] ((codes "name", g_text) ∷ []) g_done)
-- aggregates and selectors

IsLine b.Count w L = OfColumn Counts w L
IsLine b.Sum w L = OfColumn Sums w L
IsLine b.Spread w L = OfColumn Sums w L
IsLine b.Distinct w L = OfColumn Distincts w L
IsLine b.Min w L = OfColumn Extremes w L
IsLine b.Max w L = OfColumn Extremes w L
IsLine b.First w L = OfColumn Ends w L
IsLine b.Last w L = OfColumn Ends w L
-- columns and rows

IsLine b.Keep w L = (xs : List Label) × AreWords w (codes "columns") xs × OfKeep xs L
IsLine b.Drop w L = (xs : List Label) × AreWords w (codes "columns") xs × OfDrop xs L
IsLine b.Rename w L =
    (g : given.LabelWords) × (words_at w (codes "columns") ≡ Some g) × ((are_names g.words g.news ≡ true) × OfRename g.words g.news L)
-- (tables=<-: stream of R[x: C], column'=x, as'=y) => stream of R{y: C}
IsLine b.Duplicate w L =
    (x : Label) × IsWord w (codes "column") x
    × ((y : Label) × IsWord w (codes "as") y
    × ((r : GroundRow) × (c : Ground) × IsKind c × Has r x c × (L ≡ from_tables r (codes "column" ∷ codes "as" ∷ []) [] [] (g_stream (put y c r)))))
-- (tables=<-: stream of R, key'=x, value: string) => stream of R{x: string}
IsLine b.Set w L =
    (x : Label) × IsWord w (codes "key") x
    × ((r : GroundRow) × (L ≡ from_tables r (codes "key" ∷ []) ((codes "value", g_text) ∷ []) [] (g_stream (put x g_text r))))
-- (tables=<-: stream of R[x: C], column'="_value", value: C) => stream of R
IsLine b.Fill w L =
    (x : Label) × IsWordOr w (codes "column") (codes "_value") x
    × ((r : GroundRow) × (c : Ground) × IsKind c × Has r x c × (L ≡ from_tables r (codes "column" ∷ []) ((codes "value", c) ∷ []) [] (g_stream r)))
-- columns'=["_value"]
IsLine b.Sort w L = (xs : List Label) × AreWordsOr w (codes "columns") (codes "_value" ∷ []) xs × OfSort xs L
IsLine b.Limit w L = OfPart L
IsLine b.Tail w L = OfPart L
IsLine b.Difference w L = OfSteps w L
IsLine b.CumulativeSum w L = OfSteps w L
-- (tables=<-: stream of R[x: time], unit: duration, timeColumn'="_time", columnName'="elapsed") => stream of R{y: int}
IsLine b.Elapsed w L =
    (x : Label) × IsWordOr w (codes "timeColumn") (codes "_time") x
    × ((y : Label) × IsWordOr w (codes "columnName") (codes "elapsed") y
    × ((r : GroundRow) × Has r x g_time
    × (L ≡ from_tables r (codes "timeColumn" ∷ codes "columnName" ∷ []) [] ((codes "unit", g_span) ∷ []) (g_stream (put y g_int r)))))
-- no label is in two of the three
IsLine b.Pivot w L =
    (xs : List Label) × AreWords w (codes "rowKey") xs
    × ((ys : List Label) × AreWords w (codes "columnKey") ys
    × ((z : Label) × IsWord w (codes "valueColumn") z
    × ((are_apart xs ys z ≡ true) × OfPivot xs ys z L)))
-- joins

IsLine b.JoinInner w L = OfSides L
IsLine b.JoinLeft w L = OfSides L
IsLine b.JoinRight w L = OfSides L
IsLine b.JoinFull w L = OfSides L
-- method'="inner"
IsLine b.JoinTime w L = IsMethod w × OfTimes L
-- scalars

IsLine b.True w L = L ≡ value g_bool
IsLine b.False w L = L ≡ value g_bool
IsLine b.Now w L = L ≡ call [] [] g_time
IsLine b.Int w L = OfKind g_int L
IsLine b.String w L = OfKind g_text L
IsLine b.Bool w L = (c : Ground) × IsAmong (kind.Bool ∷ kind.Int ∷ kind.Text ∷ []) false c × (L ≡ call ((codes "v", c) ∷ []) [] g_bool)
IsLine b.Time w L = (c : Ground) × IsAmong (kind.Time ∷ kind.Int ∷ kind.Text ∷ []) false c × (L ≡ call ((codes "v", c) ∷ []) [] g_time)
IsLine b.Length w L = (t : Ground) × (L ≡ call ((codes "arr", g_array t) ∷ []) [] g_int)
IsLine b.Contains w L = (c : Ground) × IsKind c × (L ≡ call ((codes "value", c) ∷ (codes "set", g_array c) ∷ []) [] g_bool)
IsLine b.ContainsStr w L = OfTexts (codes "substr") g_bool L
IsLine b.HasPrefix w L = OfTexts (codes "prefix") g_bool L
IsLine b.HasSuffix w L = OfTexts (codes "suffix") g_bool L
IsLine b.Strlen w L = L ≡ call ((codes "v", g_text) ∷ []) [] g_int
IsLine b.Substring w L = L ≡ call ((codes "v", g_text) ∷ (codes "start", g_int) ∷ (codes "end", g_int) ∷ []) [] g_text
IsLine b.TrimPrefix w L = OfTexts (codes "prefix") g_text L
IsLine b.TrimSuffix w L = OfTexts (codes "suffix") g_text L
IsLine b.ReplaceAll w L = L ≡ call ((codes "v", g_text) ∷ (codes "t", g_text) ∷ (codes "u", g_text) ∷ []) [] g_text
IsLine b.Split w L = OfTexts (codes "t") (g_array g_text) L
IsLine b.JoinStr w L = L ≡ call ((codes "arr", g_array g_text) ∷ (codes "v", g_text) ∷ []) [] g_text
IsLine b.Repeat w L = L ≡ call ((codes "v", g_text) ∷ (codes "i", g_int) ∷ []) [] g_text
IsLine b.Year w L = OfTime L
IsLine b.Month w L = OfTime L
IsLine b.MonthDay w L = OfTime L
IsLine b.YearDay w L = OfTime L
IsLine b.WeekDay w L = OfTime L
IsLine b.Hour w L = OfTime L
IsLine b.Minute w L = OfTime L
IsLine b.Second w L = OfTime L
IsLine b.Nanosecond w L = OfTime L
IsLine b.Truncate w L = L ≡ call ((codes "t", g_time) ∷ (codes "unit", g_span) ∷ []) [] g_time
IsLine b.Add w L = OfSpan (codes "to") L
IsLine b.Sub w L = OfSpan (codes "from") L
