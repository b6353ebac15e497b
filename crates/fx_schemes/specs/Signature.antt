-- The labels of each built-in: what a call gives, in which order, and how its label arguments are written.
-- `docs/builtins.md` has the same labels in the same order.
use Rattle.std.specs.Prelude.{◌≡◌, Bool, true, false, ◌||◌, List, [], ◌∷◌, ◌++◌, Option, None, Some, IsSome, map, codes, if◌then◌else◌}
use Rattle.fx_base.specs.Text.{same_text}
use Rattle.fx_types.specs.Term.{Label}
use Rattle.fx_types.specs.Ground.{Ground, GroundField, GroundRow, g_fun, g_absent, g_is, listed}
use Rattle.fx_schemes.specs.declared.form.Form.{Form}
use Rattle.fx_schemes.specs.declared.form.Form.TheVariants as form
use Rattle.fx_schemes.specs.declared.list.Builtin.{Builtin}
use Rattle.fx_schemes.specs.declared.list.Builtin.TheVariants as b
use Rattle.fx_schemes.specs.Given.{Given, words_at}
use Rattle.fx_schemes.specs.Line.{Line, value}

-- a label argument: how it is written, and whether every call must give it
pub record Word : Type 0 where
  pub label : Label
  pub form : Form
  pub due : Bool

-- the parameters that are no label arguments, each list in the order of the line, the label of
-- what comes by the pipe, and the label arguments
pub record Signature : Type 0 where
  pub required : List Label
  pub optional : List Label
  pub pipe : Option Label
  pub words : List Word

abbrev pub due : Label → Form → Word
due x f = record { label = x; form = f; due = true }

abbrev pub free : Label → Form → Word
free x f = record { label = x; form = f; due = false }

-- what takes nothing by the pipe, and whose parameters are all required
abbrev pub takes : List Label → Option Signature
takes xs = Some (record { required = xs; optional = []; pipe = None; words = [] })

-- what takes its input by the pipe or under the label x
abbrev pub over : Label → List Label → List Label → List Word → Option Signature
over x xs os ws = Some (record { required = xs; optional = os; pipe = Some x; words = ws })

abbrev pub of_tables : List Label → List Label → List Word → Option Signature
of_tables = over (codes "tables")

abbrev pub of_sides : List Label → List Word → Option Signature
of_sides xs ws = over (codes "left") (codes "right" ∷ xs) [] ws

-- None for what is no function
abbrev pub signature_of : Builtin → Option Signature
-- sources

signature_of b.From = takes (codes "bucket" ∷ [])
signature_of b.Texts = takes (codes "bucket" ∷ [])
signature_of b.Bools = takes (codes "bucket" ∷ [])
signature_of b.ArrayFrom = takes (codes "rows" ∷ [])
-- rows and groups

signature_of b.Range = of_tables (codes "start" ∷ []) (codes "stop" ∷ []) []
signature_of b.Filter = of_tables (codes "fn" ∷ []) [] (free (codes "onEmpty") form.Listed ∷ [])
signature_of b.Map = of_tables (codes "fn" ∷ []) [] []
signature_of b.Group = of_tables [] [] (free (codes "columns") form.Texts ∷ free (codes "mode") form.Listed ∷ [])
signature_of b.Union = takes (codes "tables" ∷ [])
signature_of b.Window = of_tables (codes "every" ∷ []) (codes "period" ∷ []) []
signature_of b.AggregateWindow = of_tables (codes "every" ∷ []) (codes "createEmpty" ∷ []) (due (codes "fn") form.Name ∷ [])
signature_of b.Reduce = of_tables (codes "identity" ∷ codes "fn" ∷ []) [] []
signature_of b.Yield = of_tables [] (codes "name" ∷ []) []
-- aggregates and selectors

signature_of b.Count = of_tables [] [] (free (codes "column") form.Text ∷ [])
signature_of b.Sum = of_tables [] [] (free (codes "column") form.Text ∷ [])
signature_of b.Spread = of_tables [] [] (free (codes "column") form.Text ∷ [])
signature_of b.Distinct = of_tables [] [] (free (codes "column") form.Text ∷ [])
signature_of b.Min = of_tables [] [] (free (codes "column") form.Text ∷ [])
signature_of b.Max = of_tables [] [] (free (codes "column") form.Text ∷ [])
signature_of b.First = of_tables [] [] (free (codes "column") form.Text ∷ [])
signature_of b.Last = of_tables [] [] (free (codes "column") form.Text ∷ [])
-- columns and rows

signature_of b.Keep = of_tables [] [] (due (codes "columns") form.Texts ∷ [])
signature_of b.Drop = of_tables [] [] (due (codes "columns") form.Texts ∷ [])
signature_of b.Rename = of_tables [] [] (due (codes "columns") form.Renames ∷ [])
signature_of b.Duplicate = of_tables [] [] (due (codes "column") form.Text ∷ due (codes "as") form.Text ∷ [])
signature_of b.Set = of_tables (codes "value" ∷ []) [] (due (codes "key") form.Text ∷ [])
signature_of b.Fill = of_tables (codes "value" ∷ []) [] (free (codes "column") form.Text ∷ [])
signature_of b.Sort = of_tables [] (codes "desc" ∷ []) (free (codes "columns") form.Texts ∷ [])
signature_of b.Limit = of_tables (codes "n" ∷ []) (codes "offset" ∷ []) []
signature_of b.Tail = of_tables (codes "n" ∷ []) (codes "offset" ∷ []) []
signature_of b.Difference = of_tables [] [] (free (codes "columns") form.Texts ∷ [])
signature_of b.CumulativeSum = of_tables [] [] (free (codes "columns") form.Texts ∷ [])
signature_of b.Elapsed = of_tables [] (codes "unit" ∷ []) (free (codes "timeColumn") form.Text ∷ free (codes "columnName") form.Text ∷ [])
signature_of b.Pivot =
    of_tables [] [] (due (codes "rowKey") form.Texts ∷ due (codes "columnKey") form.Texts ∷ due (codes "valueColumn") form.Text ∷ [])
-- joins

signature_of b.JoinInner = of_sides (codes "on" ∷ codes "as" ∷ []) []
signature_of b.JoinLeft = of_sides (codes "on" ∷ codes "as" ∷ []) []
signature_of b.JoinRight = of_sides (codes "on" ∷ codes "as" ∷ []) []
signature_of b.JoinFull = of_sides (codes "on" ∷ codes "as" ∷ []) []
signature_of b.JoinTime = of_sides (codes "as" ∷ []) (free (codes "method") form.Listed ∷ [])
-- scalars

signature_of b.True = None
signature_of b.False = None
signature_of b.Now = takes []
signature_of b.Int = takes (codes "v" ∷ [])
signature_of b.String = takes (codes "v" ∷ [])
signature_of b.Bool = takes (codes "v" ∷ [])
signature_of b.Time = takes (codes "v" ∷ [])
signature_of b.Length = takes (codes "arr" ∷ [])
signature_of b.Contains = takes (codes "value" ∷ codes "set" ∷ [])
signature_of b.ContainsStr = takes (codes "v" ∷ codes "substr" ∷ [])
signature_of b.HasPrefix = takes (codes "v" ∷ codes "prefix" ∷ [])
signature_of b.HasSuffix = takes (codes "v" ∷ codes "suffix" ∷ [])
signature_of b.Strlen = takes (codes "v" ∷ [])
signature_of b.Substring = takes (codes "v" ∷ codes "start" ∷ codes "end" ∷ [])
signature_of b.TrimPrefix = takes (codes "v" ∷ codes "prefix" ∷ [])
signature_of b.TrimSuffix = takes (codes "v" ∷ codes "suffix" ∷ [])
signature_of b.ReplaceAll = takes (codes "v" ∷ codes "t" ∷ codes "u" ∷ [])
signature_of b.Split = takes (codes "v" ∷ codes "t" ∷ [])
signature_of b.JoinStr = takes (codes "arr" ∷ codes "v" ∷ [])
signature_of b.Repeat = takes (codes "v" ∷ codes "i" ∷ [])
signature_of b.Year = takes (codes "t" ∷ [])
signature_of b.Month = takes (codes "t" ∷ [])
signature_of b.MonthDay = takes (codes "t" ∷ [])
signature_of b.YearDay = takes (codes "t" ∷ [])
signature_of b.WeekDay = takes (codes "t" ∷ [])
signature_of b.Hour = takes (codes "t" ∷ [])
signature_of b.Minute = takes (codes "t" ∷ [])
signature_of b.Second = takes (codes "t" ∷ [])
signature_of b.Nanosecond = takes (codes "t" ∷ [])
signature_of b.Truncate = takes (codes "t" ∷ codes "unit" ∷ [])
signature_of b.Add = takes (codes "d" ∷ codes "to" ∷ [])
signature_of b.Sub = takes (codes "d" ∷ codes "from" ∷ [])

-- parts of it, empty for what is no function

abbrev pub nothing : Signature
nothing = record { required = []; optional = []; pipe = None; words = [] }

abbrev pub signature_or_nothing : Option Signature → Signature
signature_or_nothing None = nothing
signature_or_nothing (Some s) = s

abbrev pub required_of : Builtin → List Label
required_of x = (signature_or_nothing (signature_of x)).required

abbrev pub optional_of : Builtin → List Label
optional_of x = (signature_or_nothing (signature_of x)).optional

abbrev pub pipe_label_of : Builtin → Option Label
pipe_label_of x = (signature_or_nothing (signature_of x)).pipe

abbrev pub words_of : Builtin → List Word
words_of x = (signature_or_nothing (signature_of x)).words

abbrev pub with_pipe : Option Label → List Label → List Label
with_pipe None xs = xs
with_pipe (Some x) xs = x ∷ xs

-- all labels that a call may give
abbrev pub labels_of : Builtin → List Label
labels_of x = with_pipe (pipe_label_of x) (required_of x ++ (optional_of x ++ map (λ w. w.label) (words_of x)))

-- the label arguments with their forms, in the order of the line
abbrev pub forms_of : Builtin → List (Label × Form)
forms_of x = map (λ w. (w.label, w.form)) (words_of x)

-- the form beside the label, None where it stands beside none
abbrev pub form_in : Label → List (Label × Form) → Option Form
form_in l [] = None
form_in l (e ∷ es) = if same_text l e.0 then Some e.1 else form_in l es

-- the form of the label argument, None where the label is none of the built-in's label arguments
abbrev pub form_of : Builtin → Label → Option Form
form_of x l = form_in l (forms_of x)

-- it has a label argument that no call may leave out
abbrev pub has_due : List Word → Bool
has_due [] = false
has_due (w ∷ ws) = w.due || has_due ws

abbrev pub needs_words : Builtin → Bool
needs_words x = has_due (words_of x)

-- the row has a type at exactly the listed labels

abbrev pub is_present : GroundField → Bool
is_present g_absent = false
is_present (g_is t) = true

abbrev pub IsAtExactly : List Label → GroundRow → Type 0
IsAtExactly xs r = (l : Label) → is_present (r l) ≡ listed l xs

-- it takes something by the pipe exactly where the pipe has a label
abbrev pub IsPiped : Option Label → GroundField → Type 0
IsPiped None p = p ≡ g_absent
IsPiped (Some x) p = (t : Ground) × (p ≡ g_is t)

-- a function of exactly these labels
pub record IsFunctionOf (s : Signature) (L : Line) : Type 0 where
  pub needs : GroundRow
  pub input : GroundField
  pub gives : Ground
  pub type : L.type ≡ g_fun needs input gives
  pub required : IsAtExactly s.required needs
  pub optional : IsAtExactly s.optional L.optional
  pub piped : IsPiped s.pipe input
  pub pipe_label : L.pipe_label ≡ s.pipe
  pub labels : L.labels ≡ map (λ w. w.label) s.words

abbrev pub IsNoFunction : Ground → Type 0
IsNoFunction (g_fun needs input gives) = ⊥
IsNoFunction _ = Unit {0}

-- the line has exactly the labels of the signature
abbrev pub HasSignature : Option Signature → Line → Type 0
HasSignature None L = (L ≡ value L.type) × IsNoFunction L.type
HasSignature (Some s) L = IsFunctionOf s L

-- each label argument that no call may leave out is given
abbrev pub AreGiven : Given → List Word → Type 0
AreGiven w [] = Unit {0}
AreGiven w (word ∷ words) = (word.due ≡ true → IsSome (words_at w word.label)) × AreGiven w words
