-- Values as plain data, and environments, which are lists of labels with values.
use Rattle.std.specs.Prelude.{ℕ, Bool, true, false, List, [], Option, None, Some, if◌then◌else◌}
use Rattle.fx_ast.specs.Tree.{Tree, Params, Props}
use Rattle.fx_base.specs.Text.{same_text}
use Rattle.fx_base.specs.declared.place.Place.{Place}
use Rattle.fx_time.specs.declared.span.Span.{Span}
use Rattle.fx_value.specs.declared.scalar.Scalar.{Scalar}
use Rattle.fx_meaning.specs.declared.native.Native.{Native}
use Rattle.fx_meaning.specs.declared.package.Package.{Package}
use Rattle.fx_meaning.specs.declared.setting.Setting.{Setting}
use Rattle.fx_meaning.specs.declared.stream.StreamFn.{StreamFn}

abbrev pub Label : Type 0
Label = List ℕ

mutual
  pub data Val : Type 0 where
    cell : (value : Scalar) → Val
    span : (value : Span) → Val
    -- a pattern, by its number
    pattern : (number : ℕ) → Val
    array : (items : Vals) → Val
    rec : (fields : Slots) → Val
    -- a function literal, with the values of its free names and the setting in which it was evaluated
    closure : (params : Params) → (lets : Props) → (result : Tree) → (captured : Slots) → (setting : Setting) → Val
    native : (which : Native) → Val
    in_package : (which : Package) → Val
    stream : (call : Stream) → Val
    -- a stream that is shown under a name; the place is that of the call of `yield`
    shown : (name : Scalar) → (place : Place) → (call : Stream) → Val

  pub data Vals : Type 0 where
    no_vals : Vals
    more_vals : (first : Val) → (rest : Vals) → Vals

  -- labels with values; of several with one label the last counts
  pub data Slots : Type 0 where
    no_slots : Slots
    more_slots : (label : Label) → (value : Val) → (rest : Slots) → Slots

  -- an operator on streams, with its inputs and its other arguments. It isn't run here
  pub data Stream : Type 0 where
    applied : (which : StreamFn) → (place : Place) → (inputs : Streams) → (args : Slots) → Stream

  pub data Streams : Type 0 where
    no_streams : Streams
    more_streams : (first : Stream) → (rest : Streams) → Streams

-- the first that is there
abbrev pub or_else : {A : Type 0} → Option A → Option A → Option A
or_else (Some a) other = Some a
or_else None other = other

-- the value at a label, the last one
abbrev pub look : Label → Slots → Option Val
look x no_slots = None
look x (more_slots y v slots) = or_else (look x slots) (if same_text x y then Some v else None)

abbrev pub is_there : Option Val → Bool
is_there None = false
is_there (Some v) = true

-- one more at the end
abbrev pub push : Slots → Label → Val → Slots
push no_slots x v = more_slots x v no_slots
push (more_slots y w slots) x v = more_slots y w (push slots x v)

abbrev pub push_val : Vals → Val → Vals
push_val no_vals v = more_vals v no_vals
push_val (more_vals w vs) v = more_vals w (push_val vs v)

abbrev pub push_stream : Streams → Stream → Streams
push_stream no_streams c = more_streams c no_streams
push_stream (more_streams d cs) c = more_streams d (push_stream cs c)

-- the slots whose labels pass the test, in their order
abbrev pub keep : (Label → Bool) → Slots → Slots
keep test no_slots = no_slots
keep test (more_slots y v slots) = if test y then more_slots y v (keep test slots) else keep test slots
