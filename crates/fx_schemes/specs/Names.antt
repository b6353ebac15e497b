-- The names of the built-ins by package, and their numbers.
use Rattle.std.specs.Prelude.{◌≡◌, ℕ, List, [], ◌∷◌, Option, None, Some, codes, if◌then◌else◌}
use Rattle.fx_base.specs.Text.{same_text, text_cmp}
use Rattle.fx_table.specs.CaseTable.{value_at}
use Rattle.fx_types.specs.Term.{Label}
use Rattle.fx_schemes.specs.declared.list.Builtin.{Builtin}
use Rattle.fx_schemes.specs.declared.list.Builtin.TheVariants as b
use Rattle.fx_schemes.specs.declared.name.BuiltinId as ids

-- the names that need no import: what makes or takes streams
unfoldable pub streams : List (Label × Builtin)
streams =
    (codes "aggregateWindow", b.AggregateWindow)
    ∷ (codes "count", b.Count)
    ∷ (codes "cumulativeSum", b.CumulativeSum)
    ∷ (codes "difference", b.Difference)
    ∷ (codes "distinct", b.Distinct)
    ∷ (codes "drop", b.Drop)
    ∷ (codes "duplicate", b.Duplicate)
    ∷ (codes "elapsed", b.Elapsed)
    ∷ (codes "fill", b.Fill)
    ∷ (codes "filter", b.Filter)
    ∷ (codes "first", b.First)
    ∷ (codes "from", b.From)
    ∷ (codes "group", b.Group)
    ∷ (codes "keep", b.Keep)
    ∷ (codes "last", b.Last)
    ∷ (codes "limit", b.Limit)
    ∷ (codes "map", b.Map)
    ∷ (codes "max", b.Max)
    ∷ (codes "min", b.Min)
    ∷ (codes "pivot", b.Pivot)
    ∷ (codes "range", b.Range)
    ∷ (codes "reduce", b.Reduce)
    ∷ (codes "rename", b.Rename)
    ∷ (codes "set", b.Set)
    ∷ (codes "sort", b.Sort)
    ∷ (codes "spread", b.Spread)
    ∷ (codes "sum", b.Sum)
    ∷ (codes "tail", b.Tail)
    ∷ (codes "union", b.Union)
    ∷ (codes "window", b.Window)
    ∷ (codes "yield", b.Yield)
    ∷ []

-- and what takes no stream
unfoldable pub values : List (Label × Builtin)
values =
    (codes "bool", b.Bool)
    ∷ (codes "contains", b.Contains)
    ∷ (codes "false", b.False)
    ∷ (codes "int", b.Int)
    ∷ (codes "length", b.Length)
    ∷ (codes "now", b.Now)
    ∷ (codes "string", b.String)
    ∷ (codes "time", b.Time)
    ∷ (codes "true", b.True)
    ∷ []

-- package `array`
unfoldable pub arrays : List (Label × Builtin)
arrays =
    (codes "from", b.ArrayFrom)
    ∷ []

-- package `date`
unfoldable pub dates : List (Label × Builtin)
dates =
    (codes "add", b.Add)
    ∷ (codes "hour", b.Hour)
    ∷ (codes "minute", b.Minute)
    ∷ (codes "month", b.Month)
    ∷ (codes "monthDay", b.MonthDay)
    ∷ (codes "nanosecond", b.Nanosecond)
    ∷ (codes "second", b.Second)
    ∷ (codes "sub", b.Sub)
    ∷ (codes "truncate", b.Truncate)
    ∷ (codes "weekDay", b.WeekDay)
    ∷ (codes "year", b.Year)
    ∷ (codes "yearDay", b.YearDay)
    ∷ []

-- package `join`
unfoldable pub joins : List (Label × Builtin)
joins =
    (codes "full", b.JoinFull)
    ∷ (codes "inner", b.JoinInner)
    ∷ (codes "left", b.JoinLeft)
    ∷ (codes "right", b.JoinRight)
    ∷ (codes "time", b.JoinTime)
    ∷ []

-- package `series`
unfoldable pub sources : List (Label × Builtin)
sources =
    (codes "bools", b.Bools)
    ∷ (codes "texts", b.Texts)
    ∷ []

-- package `strings`
unfoldable pub texts : List (Label × Builtin)
texts =
    (codes "containsStr", b.ContainsStr)
    ∷ (codes "hasPrefix", b.HasPrefix)
    ∷ (codes "hasSuffix", b.HasSuffix)
    ∷ (codes "joinStr", b.JoinStr)
    ∷ (codes "repeat", b.Repeat)
    ∷ (codes "replaceAll", b.ReplaceAll)
    ∷ (codes "split", b.Split)
    ∷ (codes "strlen", b.Strlen)
    ∷ (codes "substring", b.Substring)
    ∷ (codes "trimPrefix", b.TrimPrefix)
    ∷ (codes "trimSuffix", b.TrimSuffix)
    ∷ []

-- the built-in in the row of the name, None where no row has it

unfoldable pub stream_of : Label → Option Builtin
stream_of n = value_at text_cmp n streams

unfoldable pub value_of : Label → Option Builtin
value_of n = value_at text_cmp n values

unfoldable pub array_of : Label → Option Builtin
array_of n = value_at text_cmp n arrays

unfoldable pub date_of : Label → Option Builtin
date_of n = value_at text_cmp n dates

unfoldable pub join_of : Label → Option Builtin
join_of n = value_at text_cmp n joins

unfoldable pub series_of : Label → Option Builtin
series_of n = value_at text_cmp n sources

unfoldable pub string_of : Label → Option Builtin
string_of n = value_at text_cmp n texts

abbrev pub or_else : Option Builtin → Option Builtin → Option Builtin
or_else (Some x) other = Some x
or_else None other = other

abbrev pub universe_of : Label → Option Builtin
universe_of n = or_else (stream_of n) (value_of n)

-- the package of the names that need no import is the empty text
abbrev pub builtin_of : Label → Label → Option Builtin
builtin_of p n =
    if same_text p (codes "") then universe_of n else
    (if same_text p (codes "array") then array_of n else
    (if same_text p (codes "date") then date_of n else
    (if same_text p (codes "join") then join_of n else
    (if same_text p (codes "series") then series_of n else
    (if same_text p (codes "strings") then string_of n else None)))))

-- numbers, in the order of `Builtins`
abbrev pub number_of : Builtin → ℕ
number_of b.From = 0
number_of b.Texts = 1
number_of b.Bools = 2
number_of b.ArrayFrom = 3
number_of b.Range = 4
number_of b.Filter = 5
number_of b.Map = 6
number_of b.Group = 7
number_of b.Union = 8
number_of b.Window = 9
number_of b.AggregateWindow = 10
number_of b.Reduce = 11
number_of b.Yield = 12
number_of b.Count = 13
number_of b.Sum = 14
number_of b.Spread = 15
number_of b.Distinct = 16
number_of b.Min = 17
number_of b.Max = 18
number_of b.First = 19
number_of b.Last = 20
number_of b.Keep = 21
number_of b.Drop = 22
number_of b.Rename = 23
number_of b.Duplicate = 24
number_of b.Set = 25
number_of b.Fill = 26
number_of b.Sort = 27
number_of b.Limit = 28
number_of b.Tail = 29
number_of b.Difference = 30
number_of b.CumulativeSum = 31
number_of b.Elapsed = 32
number_of b.Pivot = 33
number_of b.JoinInner = 34
number_of b.JoinLeft = 35
number_of b.JoinRight = 36
number_of b.JoinFull = 37
number_of b.JoinTime = 38
number_of b.True = 39
number_of b.False = 40
number_of b.Now = 41
number_of b.Int = 42
number_of b.String = 43
number_of b.Bool = 44
number_of b.Time = 45
number_of b.Length = 46
number_of b.Contains = 47
number_of b.ContainsStr = 48
number_of b.HasPrefix = 49
number_of b.HasSuffix = 50
number_of b.Strlen = 51
number_of b.Substring = 52
number_of b.TrimPrefix = 53
number_of b.TrimSuffix = 54
number_of b.ReplaceAll = 55
number_of b.Split = 56
number_of b.JoinStr = 57
number_of b.Repeat = 58
number_of b.Year = 59
number_of b.Month = 60
number_of b.MonthDay = 61
number_of b.YearDay = 62
number_of b.WeekDay = 63
number_of b.Hour = 64
number_of b.Minute = 65
number_of b.Second = 66
number_of b.Nanosecond = 67
number_of b.Truncate = 68
number_of b.Add = 69
number_of b.Sub = 70

abbrev pub id_of : Builtin → ids.BuiltinId
id_of x = record { number = number_of x }

unfoldable pub all : List Builtin
all =
    b.From
    ∷ b.Texts
    ∷ b.Bools
    ∷ b.ArrayFrom
    ∷ b.Range
    ∷ b.Filter
    ∷ b.Map
    ∷ b.Group
    ∷ b.Union
    ∷ b.Window
    ∷ b.AggregateWindow
    ∷ b.Reduce
    ∷ b.Yield
    ∷ b.Count
    ∷ b.Sum
    ∷ b.Spread
    ∷ b.Distinct
    ∷ b.Min
    ∷ b.Max
    ∷ b.First
    ∷ b.Last
    ∷ b.Keep
    ∷ b.Drop
    ∷ b.Rename
    ∷ b.Duplicate
    ∷ b.Set
    ∷ b.Fill
    ∷ b.Sort
    ∷ b.Limit
    ∷ b.Tail
    ∷ b.Difference
    ∷ b.CumulativeSum
    ∷ b.Elapsed
    ∷ b.Pivot
    ∷ b.JoinInner
    ∷ b.JoinLeft
    ∷ b.JoinRight
    ∷ b.JoinFull
    ∷ b.JoinTime
    ∷ b.True
    ∷ b.False
    ∷ b.Now
    ∷ b.Int
    ∷ b.String
    ∷ b.Bool
    ∷ b.Time
    ∷ b.Length
    ∷ b.Contains
    ∷ b.ContainsStr
    ∷ b.HasPrefix
    ∷ b.HasSuffix
    ∷ b.Strlen
    ∷ b.Substring
    ∷ b.TrimPrefix
    ∷ b.TrimSuffix
    ∷ b.ReplaceAll
    ∷ b.Split
    ∷ b.JoinStr
    ∷ b.Repeat
    ∷ b.Year
    ∷ b.Month
    ∷ b.MonthDay
    ∷ b.YearDay
    ∷ b.WeekDay
    ∷ b.Hour
    ∷ b.Minute
    ∷ b.Second
    ∷ b.Nanosecond
    ∷ b.Truncate
    ∷ b.Add
    ∷ b.Sub
    ∷ []

-- the number is that of this built-in
abbrev pub IsId : ids.BuiltinId → Builtin → Type 0
IsId id x = number_of x ≡ id.number
