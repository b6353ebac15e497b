-- Which values fit which types.
--
-- One relation says it of values and types, and of names: `keeps_at` says of the value that stands at a label what an
-- environment says of a name. That a value fits a type is the case of a parameter of the type.
use Rattle.std.specs.Prelude.{◌≡◌, ◌<◌, ◌^◌, ◌&&◌, ℕ, ℤ, Bool, true, false, List, [], ◌∷◌, Option, None, Some, IsTrue, codes}
use Rattle.fx_base.specs.Text.{same_text}
use Rattle.fx_time.specs.declared.span.Span.{Span}
use Rattle.fx_value.specs.declared.scalar.Kind.{Kind}
use Rattle.fx_value.specs.declared.scalar.Kind.TheVariants as kind
use Rattle.fx_value.specs.declared.scalar.Scalar.{Scalar}
use Rattle.fx_value.specs.declared.scalar.Scalar.TheVariants as scalar
use Rattle.fx_ops.specs.Kinds.{is_kind, is_whole}
use Rattle.fx_ops.specs.Whole.{in_64_bits}
use Rattle.fx_types.specs.Term.{Label}
use Rattle.fx_types.specs.Ground.{Ground, GroundField, GroundRow, g_bool, g_int, g_text, g_time, g_span, g_pattern, g_done, g_array, g_fun, g_rec, g_stream, g_absent, g_is, listed}
use Rattle.fx_types.specs.Size.{IsType}
use Rattle.fx_schemes.specs.declared.form.Form.{Form}
use Rattle.fx_schemes.specs.Builtins.{IsLine}
use Rattle.fx_schemes.specs.Given.{Given}
use Rattle.fx_schemes.specs.Line.{Line, put}
use Rattle.fx_schemes.specs.Signature.{form_of}
use Rattle.fx_ast.specs.Free.{Need, name_of, pattern_at, free_fun}
use Rattle.fx_ast.specs.Tree.{Tree, fun, Props, Params}
use Rattle.fx_meaning.specs.declared.native.Native.{Native}
use Rattle.fx_meaning.specs.declared.package.Package.{Package}
use Rattle.fx_meaning.specs.declared.setting.Setting.{Setting}
use Rattle.fx_meaning.specs.declared.stream.StreamFn.{StreamFn}
use Rattle.fx_meaning.specs.declared.stream.StreamFn.TheVariants as s
use Rattle.fx_meaning.specs.Meaning.{numbered}
use Rattle.fx_meaning.specs.Native as natives
use Rattle.fx_meaning.specs.Native.{native_builtin, path_of, stream_builtin, value_if}
use Rattle.fx_meaning.specs.Natives.{input_labels, is_name}
use Rattle.fx_meaning.specs.Value.{Val, cell, span, pattern, array, rec, closure, native, in_package, stream, shown, Vals, no_vals, more_vals, Slots, no_slots, more_slots, look, is_there, Stream, applied, Streams, no_streams, more_streams}
use Rattle.fx_infer.specs.Ask.{type_is, either}
use Rattle.fx_infer.specs.Environment.{Env, HasType, scope}
use Rattle.fx_infer.specs.Native.{IsValueOf}
use Rattle.fx_infer.specs.Typing.{has_shape}
use Rattle.fx_build.specs.Bound.{Bound, unbound, typed, defined, packaged, find, Literal, literal, no_literal, literal_of}
use Rattle.fx_plan.specs.Said.{said_in}

-- ---- values without parts

abbrev pub column_kind : Ground → Option Kind
column_kind g_bool = Some kind.Bool
column_kind g_int = Some kind.Int
column_kind g_text = Some kind.Text
column_kind g_time = Some kind.Time
column_kind _ = None

-- null or of the kind, and in 64 bits if it is an integer or a time
abbrev pub is_cell : Option Kind → Scalar → Bool
is_cell None a = false
is_cell (Some k) a = is_kind a k && is_whole a

abbrev pub CellFits : Scalar → Ground → Type 0
CellFits a t = IsTrue (is_cell (column_kind t) a)

abbrev pub SpanFits : Span → Ground → Type 0
SpanFits d g_span = IsTrue (in_64_bits d.months && in_64_bits d.nanos)
SpanFits d _ = ⊥

abbrev pub PatternFits : ℕ → Ground → Type 0
PatternFits number g_pattern = number < 2 ^ 32
PatternFits number _ = ⊥

-- a built-in, taken as a value
abbrev pub NativeFits : Native → Ground → Type 0
NativeFits g (g_fun needs input t) = IsType (g_fun needs input t) × IsValueOf (native_builtin g) (g_fun needs input t)
NativeFits g _ = ⊥

-- ---- what stands at labels

-- Keeps b Missing says of what stands at a label that it is as b says, and Missing where nothing does

abbrev pub Kept : Type 1
Kept = Bound → Type 0 → Type 0

-- a field of a record: a column that isn't there reads as null
abbrev pub FieldFits : Option Val → Kept → GroundField → Type 0
FieldFits found Keeps g_absent = found ≡ None
FieldFits found Keeps (g_is t) = Keeps (typed t) (CellFits scalar.Null t)

-- an argument at a label with what a line requires and allows there
abbrev pub ArgumentFits : Option Val → Kept → GroundField → GroundField → Type 0
ArgumentFits found Keeps (g_is t) optional = Keeps (typed t) ⊥
ArgumentFits found Keeps g_absent (g_is t) = Keeps (typed t) (Unit {0})
ArgumentFits found Keeps g_absent g_absent = found ≡ None

-- ---- names, and what literals need of them

-- the name has no entry; then it may have no slot
abbrev pub IsUnbound : Bound → Type 0
IsUnbound (unbound x) = Unit {0}
IsUnbound _ = ⊥

-- what stands at a name is as the environment says, and the setting has the pattern's number
abbrev pub IsMet : (Label → Kept) → Setting → Env → Need → Type 0
IsMet Keeps setting env (name_of x) = Keeps x (find x env) (IsUnbound (find x env))
IsMet Keeps setting env (pattern_at place) = (number : ℕ) × (numbered setting.patterns place ≡ Some number) × (number < 2 ^ 32)

abbrev pub AreMet : (Need → Bool) → (Label → Kept) → Setting → Env → Type 0
AreMet needs Keeps setting env = IsTrue (in_64_bits setting.moment) × ((n : Need) → needs n ≡ true → IsMet Keeps setting env n)

-- some environment gives the literal the type, and the captured values meet it
abbrev pub ClosureFits : Params → Props → Tree → (Env → Type 0) → Ground → Type 0
ClosureFits ps lets e Holds (g_fun needs input t) = (env : Env) × has_shape (fun ps lets e) (scope env) (type_is (g_fun needs input t)) × Holds env
ClosureFits ps lets e Holds _ = ⊥

-- the closure of a literal
abbrev pub IsClosureOf : Params → Props → Tree → Val → Type 0
IsClosureOf ps lets e v = (captured : Slots) × (setting : Setting) × (v ≡ closure ps lets e captured setting)

-- the value of a name for an expression: for a literal its closure, for another one what fits each of its types
abbrev pub IsDefined : (Ground → Type 0) → (Env → Type 0) → Val → Env → Tree → Literal → Type 0
IsDefined Fits Holds v env e (literal ps lets result) = IsClosureOf ps lets result v × Holds env
IsDefined Fits Holds v env e no_literal = (t : Ground) → HasType env e t → Fits t

abbrev pub KeepsBy : (Ground → Type 0) → (Env → Type 0) → Val → Bound → Type 0
KeepsBy Fits Holds v (unbound x) = value_if (natives.named x) ≡ Some v
KeepsBy Fits Holds v (typed t) = Fits t
KeepsBy Fits Holds v (defined env e) = IsDefined Fits Holds v env e (literal_of e)
KeepsBy Fits Holds v (packaged path) = (p : Package) × (path_of p ≡ path) × (v ≡ in_package p)

-- ---- values with parts

abbrev pub ArrayFits : (Ground → Type 0) → Ground → Type 0
ArrayFits Each (g_array t) = Each t
ArrayFits Each _ = ⊥

abbrev pub RecordFits : Slots → (Label → Kept) → Ground → Type 0
RecordFits fields Keeps (g_rec r) = (l : Label) → FieldFits (look l fields) (Keeps l) (r l)
RecordFits fields Keeps _ = ⊥

abbrev pub StreamFits : (Ground → Type 0) → Ground → Type 0
StreamFits Fits (g_stream r) = Fits (g_stream r)
StreamFits Fits _ = ⊥

-- a stream with its name, which is null or a text
abbrev pub ShownFits : Scalar → (Ground → Type 0) → Ground → Type 0
ShownFits name Fits g_done = IsTrue (is_name name) × ((r : GroundRow) × Fits (g_stream r))
ShownFits name Fits _ = ⊥

-- ---- streams

-- what a line requires under labels, what may come by the pipe too
abbrev pub with_input : Option Label → GroundField → GroundRow → GroundRow
with_input (Some x) (g_is t) needs = put x t needs
with_input _ _ needs = needs

abbrev pub FirstFits : (Ground → Type 0) → (List Label → GroundRow → Type 0) → List Label → GroundRow → Type 0
FirstFits Fits Rest [] needs = ⊥
FirstFits Fits Rest (x ∷ xs) needs = ((t : Ground) × (needs x ≡ g_is t) × Fits t) × Rest xs needs

-- Each t says that each input fits t, and All xs that they fit what stands at the labels, in order
abbrev pub InputsFit : StreamFn → (Ground → Type 0) → (List Label → GroundRow → Type 0) → GroundRow → Type 0
InputsFit s.Union Each All needs = (t : Ground) × (needs (codes "tables") ≡ g_is (g_array t)) × Each t
InputsFit g Each All needs = All (input_labels g) needs

-- the label under which `range` keeps the moment
abbrev pub is_now : StreamFn → Label → Bool
is_now s.Range l = same_text l (codes "now")
is_now _ l = false

abbrev pub IsMoment : Option Val → Type 0
IsMoment found = (t : ℤ) × (found ≡ Some (cell (scalar.Time t))) × IsTrue (in_64_bits t)

-- what stands at a label: nothing where an input did, a time where the moment is kept, and but for words an argument
abbrev pub FurtherFits : Bool → Bool → Option Form → Option Val → Type 0 → Type 0
FurtherFits true now f found Argument = found ≡ None
FurtherFits false true f found Argument = IsMoment found
FurtherFits false false (Some f) found Argument = Unit {0}
FurtherFits false false None found Argument = Argument

-- the arguments of a stream, but for its inputs, against what its line requires and allows
abbrev pub FurtherFit : StreamFn → Slots → (Label → Kept) → GroundRow → GroundRow → Type 0
FurtherFit g args Keeps needs optional =
    (l : Label) → FurtherFits (listed l (input_labels g)) (is_now g l) (form_of (stream_builtin g) l) (look l args) (ArgumentFits (look l args) (Keeps l) (needs l) (optional l))

-- ---- all values

abbrev mutual
  pub fits : Val → Ground → Type 0
  fits (cell a) t = CellFits a t
  fits (span d) t = SpanFits d t
  fits (pattern number) t = PatternFits number t
  fits (array vs) t = ArrayFits (each_fits vs) t
  fits (rec fields) t = RecordFits fields (keeps_at fields) t
  fits (closure ps lets e captured setting) t = ClosureFits ps lets e (AreMet (free_fun ps lets e) (keeps_at captured) setting) t
  fits (native g) t = NativeFits g t
  fits (in_package p) t = ⊥
  fits (stream call) t = StreamFits (stream_fits call) t
  fits (shown name place call) t = ShownFits name (stream_fits call) t

  -- a closure whose captured values meet the environment
  pub holds : Val → Env → Type 0
  holds (closure ps lets e captured setting) env = AreMet (free_fun ps lets e) (keeps_at captured) setting env
  holds _ env = ⊥

  pub each_fits : Vals → Ground → Type 0
  each_fits no_vals t = Unit {0}
  each_fits (more_vals v vs) t = fits v t × each_fits vs t

  -- the last value of the label is as b says; Missing where there is none
  pub keeps_at : Slots → Label → Bound → Type 0 → Type 0
  keeps_at no_slots l b Missing = Missing
  keeps_at (more_slots x v slots) l b Missing =
      either (is_there (look l slots)) (keeps_at slots l b Missing) (either (same_text l x) (KeepsBy (fits v) (holds v) v b) Missing)

  -- The built-in has a line at the words of its arguments whose result is the type. The line is a type, and its inputs and
  -- the other arguments fit what it takes.
  pub stream_fits : Stream → Ground → Type 0
  stream_fits (applied g place inputs args) t =
      (w : Given) × (L : Line) × (needs : GroundRow) × (input : GroundField)
      × (said_in (Some (stream_builtin g)) args ≡ Some w) × IsLine (stream_builtin g) w L × IsType L.type × (L.type ≡ g_fun needs input t)
      × InputsFit g (inputs_fit inputs) (inputs_at inputs) (with_input L.pipe_label input needs)
      × FurtherFit g args (keeps_at args) (with_input L.pipe_label input needs) L.optional

  pub inputs_fit : Streams → Ground → Type 0
  inputs_fit no_streams t = Unit {0}
  inputs_fit (more_streams call calls) t = stream_fits call t × inputs_fit calls t

  pub inputs_at : Streams → List Label → GroundRow → Type 0
  inputs_at no_streams xs needs = xs ≡ []
  inputs_at (more_streams call calls) xs needs = FirstFits (stream_fits call) (inputs_at calls) xs needs

-- the value is as an entry of an environment says
abbrev pub keeps : Val → Bound → Type 0
keeps v b = KeepsBy (fits v) (holds v) v b

-- the values meet the environment of types in what is needed
abbrev pub Meets : (Need → Bool) → Setting → Env → Slots → Type 0
Meets needs setting env slots = AreMet needs (keeps_at slots) setting env
