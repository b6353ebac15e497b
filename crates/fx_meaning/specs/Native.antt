-- The functions that the language has by itself: their names, and the arguments that they take.
use Rattle.std.specs.Prelude.{◌&&◌, ◌++◌, Bool, true, false, List, [], ◌∷◌, Option, None, Some, option_map, codes, if◌then◌else◌}
use Rattle.fx_ops.specs.declared.function.ScalarFn.{ScalarFn}
use Rattle.fx_ops.specs.declared.function.ScalarFn.TheVariants as f
use Rattle.fx_schemes.specs.Names.{builtin_of, universe_of}
use Rattle.fx_schemes.specs.Signature.{Word, optional_of, pipe_label_of, required_of, with_pipe, words_of}
use Rattle.fx_schemes.specs.declared.list.Builtin.{Builtin}
use Rattle.fx_schemes.specs.declared.list.Builtin.TheVariants as b
use Rattle.fx_types.specs.Ground.{listed}
use Rattle.fx_value.specs.declared.scalar.Kind.TheVariants as kind
use Rattle.fx_value.specs.declared.scalar.Scalar.TheVariants.{Bool as Flag}
use Rattle.fx_meaning.specs.declared.built.Built.{Built}
use Rattle.fx_meaning.specs.declared.built.Built.TheVariants as built
use Rattle.fx_meaning.specs.declared.native.Native.{Native}
use Rattle.fx_meaning.specs.declared.native.Native.TheVariants as n
use Rattle.fx_meaning.specs.declared.package.Package.{Package}
use Rattle.fx_meaning.specs.declared.package.Package.TheVariants as p
use Rattle.fx_meaning.specs.declared.stream.StreamFn.{StreamFn}
use Rattle.fx_meaning.specs.declared.stream.StreamFn.TheVariants as s
use Rattle.fx_meaning.specs.Value.{Label, Val, cell, native, Slots, no_slots, more_slots, look, is_there}

-- the built-in of a stream function
abbrev pub stream_builtin : StreamFn → Builtin
stream_builtin s.From = b.From
stream_builtin s.ArrayFrom = b.ArrayFrom
stream_builtin s.Range = b.Range
stream_builtin s.Filter = b.Filter
stream_builtin s.Map = b.Map
stream_builtin s.Yield = b.Yield
stream_builtin s.Group = b.Group
stream_builtin s.Window = b.Window
stream_builtin s.AggregateWindow = b.AggregateWindow
stream_builtin s.Reduce = b.Reduce
stream_builtin s.Count = b.Count
stream_builtin s.Sum = b.Sum
stream_builtin s.Spread = b.Spread
stream_builtin s.Distinct = b.Distinct
stream_builtin s.Min = b.Min
stream_builtin s.Max = b.Max
stream_builtin s.First = b.First
stream_builtin s.Last = b.Last
stream_builtin s.Keep = b.Keep
stream_builtin s.DropColumns = b.Drop
stream_builtin s.Rename = b.Rename
stream_builtin s.Duplicate = b.Duplicate
stream_builtin s.Set = b.Set
stream_builtin s.Fill = b.Fill
stream_builtin s.Sort = b.Sort
stream_builtin s.Limit = b.Limit
stream_builtin s.Tail = b.Tail
stream_builtin s.Difference = b.Difference
stream_builtin s.CumulativeSum = b.CumulativeSum
stream_builtin s.Elapsed = b.Elapsed
stream_builtin s.Union = b.Union
stream_builtin s.Pivot = b.Pivot
stream_builtin s.JoinInner = b.JoinInner
stream_builtin s.JoinLeft = b.JoinLeft
stream_builtin s.JoinRight = b.JoinRight
stream_builtin s.JoinFull = b.JoinFull
stream_builtin s.JoinTime = b.JoinTime
stream_builtin s.Texts = b.Texts
stream_builtin s.Bools = b.Bools

-- the built-in of a function on scalars
abbrev pub scalar_builtin : ScalarFn → Builtin
scalar_builtin f.ContainsStr = b.ContainsStr
scalar_builtin f.HasPrefix = b.HasPrefix
scalar_builtin f.HasSuffix = b.HasSuffix
scalar_builtin f.Strlen = b.Strlen
scalar_builtin f.Substring = b.Substring
scalar_builtin f.TrimPrefix = b.TrimPrefix
scalar_builtin f.TrimSuffix = b.TrimSuffix
scalar_builtin f.ReplaceAll = b.ReplaceAll
scalar_builtin f.JoinStr = b.JoinStr
scalar_builtin f.Repeat = b.Repeat
scalar_builtin f.Year = b.Year
scalar_builtin f.Month = b.Month
scalar_builtin f.MonthDay = b.MonthDay
scalar_builtin f.YearDay = b.YearDay
scalar_builtin f.WeekDay = b.WeekDay
scalar_builtin f.Hour = b.Hour
scalar_builtin f.Minute = b.Minute
scalar_builtin f.Second = b.Second
scalar_builtin f.Nanosecond = b.Nanosecond
scalar_builtin f.Truncate = b.Truncate
scalar_builtin f.Add = b.Add
scalar_builtin f.Sub = b.Sub

-- the built-in that a value names
abbrev pub native_builtin : Native → Builtin
native_builtin n.Now = b.Now
native_builtin (n.Convert kind.Bool) = b.Bool
native_builtin (n.Convert kind.Int) = b.Int
native_builtin (n.Convert kind.Text) = b.String
native_builtin (n.Convert kind.Time) = b.Time
native_builtin n.Length = b.Length
native_builtin n.Contains = b.Contains
native_builtin n.Split = b.Split
native_builtin (n.Scalar g) = scalar_builtin g
native_builtin (n.Stream g) = stream_builtin g

-- what a built-in is: a Boolean, or a function
abbrev pub built_of : Builtin → Built
built_of b.From = built.Function (n.Stream s.From)
built_of b.Texts = built.Function (n.Stream s.Texts)
built_of b.Bools = built.Function (n.Stream s.Bools)
built_of b.ArrayFrom = built.Function (n.Stream s.ArrayFrom)
built_of b.Range = built.Function (n.Stream s.Range)
built_of b.Filter = built.Function (n.Stream s.Filter)
built_of b.Map = built.Function (n.Stream s.Map)
built_of b.Group = built.Function (n.Stream s.Group)
built_of b.Union = built.Function (n.Stream s.Union)
built_of b.Window = built.Function (n.Stream s.Window)
built_of b.AggregateWindow = built.Function (n.Stream s.AggregateWindow)
built_of b.Reduce = built.Function (n.Stream s.Reduce)
built_of b.Yield = built.Function (n.Stream s.Yield)
built_of b.Count = built.Function (n.Stream s.Count)
built_of b.Sum = built.Function (n.Stream s.Sum)
built_of b.Spread = built.Function (n.Stream s.Spread)
built_of b.Distinct = built.Function (n.Stream s.Distinct)
built_of b.Min = built.Function (n.Stream s.Min)
built_of b.Max = built.Function (n.Stream s.Max)
built_of b.First = built.Function (n.Stream s.First)
built_of b.Last = built.Function (n.Stream s.Last)
built_of b.Keep = built.Function (n.Stream s.Keep)
built_of b.Drop = built.Function (n.Stream s.DropColumns)
built_of b.Rename = built.Function (n.Stream s.Rename)
built_of b.Duplicate = built.Function (n.Stream s.Duplicate)
built_of b.Set = built.Function (n.Stream s.Set)
built_of b.Fill = built.Function (n.Stream s.Fill)
built_of b.Sort = built.Function (n.Stream s.Sort)
built_of b.Limit = built.Function (n.Stream s.Limit)
built_of b.Tail = built.Function (n.Stream s.Tail)
built_of b.Difference = built.Function (n.Stream s.Difference)
built_of b.CumulativeSum = built.Function (n.Stream s.CumulativeSum)
built_of b.Elapsed = built.Function (n.Stream s.Elapsed)
built_of b.Pivot = built.Function (n.Stream s.Pivot)
built_of b.JoinInner = built.Function (n.Stream s.JoinInner)
built_of b.JoinLeft = built.Function (n.Stream s.JoinLeft)
built_of b.JoinRight = built.Function (n.Stream s.JoinRight)
built_of b.JoinFull = built.Function (n.Stream s.JoinFull)
built_of b.JoinTime = built.Function (n.Stream s.JoinTime)
built_of b.True = built.Truth true
built_of b.False = built.Truth false
built_of b.Now = built.Function n.Now
built_of b.Int = built.Function (n.Convert kind.Int)
built_of b.String = built.Function (n.Convert kind.Text)
built_of b.Bool = built.Function (n.Convert kind.Bool)
built_of b.Time = built.Function (n.Convert kind.Time)
built_of b.Length = built.Function n.Length
built_of b.Contains = built.Function n.Contains
built_of b.ContainsStr = built.Function (n.Scalar f.ContainsStr)
built_of b.HasPrefix = built.Function (n.Scalar f.HasPrefix)
built_of b.HasSuffix = built.Function (n.Scalar f.HasSuffix)
built_of b.Strlen = built.Function (n.Scalar f.Strlen)
built_of b.Substring = built.Function (n.Scalar f.Substring)
built_of b.TrimPrefix = built.Function (n.Scalar f.TrimPrefix)
built_of b.TrimSuffix = built.Function (n.Scalar f.TrimSuffix)
built_of b.ReplaceAll = built.Function (n.Scalar f.ReplaceAll)
built_of b.Split = built.Function n.Split
built_of b.JoinStr = built.Function (n.Scalar f.JoinStr)
built_of b.Repeat = built.Function (n.Scalar f.Repeat)
built_of b.Year = built.Function (n.Scalar f.Year)
built_of b.Month = built.Function (n.Scalar f.Month)
built_of b.MonthDay = built.Function (n.Scalar f.MonthDay)
built_of b.YearDay = built.Function (n.Scalar f.YearDay)
built_of b.WeekDay = built.Function (n.Scalar f.WeekDay)
built_of b.Hour = built.Function (n.Scalar f.Hour)
built_of b.Minute = built.Function (n.Scalar f.Minute)
built_of b.Second = built.Function (n.Scalar f.Second)
built_of b.Nanosecond = built.Function (n.Scalar f.Nanosecond)
built_of b.Truncate = built.Function (n.Scalar f.Truncate)
built_of b.Add = built.Function (n.Scalar f.Add)
built_of b.Sub = built.Function (n.Scalar f.Sub)

abbrev pub value_of : Built → Val
value_of (built.Truth b) = cell (Flag b)
value_of (built.Function g) = native g

abbrev pub value_if : Option Built → Option Val
value_if None = None
value_if (Some x) = Some (value_of x)

-- what a name is that needs no import
abbrev pub named : Label → Option Built
named x = option_map built_of (universe_of x)

abbrev pub path_of : Package → Label
path_of p.Array = codes "array"
path_of p.Date = codes "date"
path_of p.Join = codes "join"
path_of p.Series = codes "series"
path_of p.Strings = codes "strings"

-- what a member of a package is
abbrev pub member : Package → Label → Option Built
member p x = option_map built_of (builtin_of (path_of p) x)

-- ---- arguments

abbrev pub due_words : List Word → List Label
due_words [] = []
due_words (w ∷ ws) = if w.due then w.label ∷ due_words ws else due_words ws

abbrev pub free_words : List Word → List Label
free_words [] = []
free_words (w ∷ ws) = if w.due then free_words ws else w.label ∷ free_words ws

-- the labels that no call may leave out: what comes by the pipe, the required ones, and label arguments without a default
abbrev pub due_labels : Builtin → List Label
due_labels x = with_pipe (pipe_label_of x) (required_of x ++ due_words (words_of x))

-- the labels that a call may leave out
abbrev pub free_labels : Builtin → List Label
free_labels x = optional_of x ++ free_words (words_of x)

abbrev pub all_given : List Label → Slots → Bool
all_given [] args = true
all_given (x ∷ xs) args = is_there (look x args) && all_given xs args

abbrev pub all_listed : List Label → Slots → Bool
all_listed labels no_slots = true
all_listed labels (more_slots x v args) = listed x labels && all_listed labels args

-- a call of the function may have these arguments: each that is due, and no unknown one
abbrev pub takes_native : Native → Slots → Bool
takes_native g args =
    all_given (due_labels (native_builtin g)) args
    && all_listed (due_labels (native_builtin g) ++ free_labels (native_builtin g)) args

-- the label of what comes by the pipe
abbrev pub native_pipe : Native → Option Label
native_pipe g = pipe_label_of (native_builtin g)
