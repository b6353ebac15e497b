-- Plans: the stream that a plan stands for, with functions of rows behind the other arguments of its calls.
use Rattle.std.specs.Prelude.{not, List, [], ◌∷◌, map, Option, None, Some, codes}
use Rattle.fx_types.specs.Ground.{listed}
use Rattle.fx_value.specs.declared.scalar.Kind.{Kind}
use Rattle.fx_value.specs.declared.scalar.Kind.TheVariants as kind
use Rattle.fx_meaning.specs.declared.stream.StreamFn.{StreamFn}
use Rattle.fx_meaning.specs.declared.stream.StreamFn.TheVariants as s
use Rattle.fx_meaning.specs.Value.{Label, Val, Slots, look, push, keep, Stream, applied, Streams, no_streams, more_streams}
use Rattle.fx_values.specs.Shape.{closed, closure_val, slot, slots_of, streams_of}
use Rattle.fx_values.specs.declared.value.Closure.{Closure}
use Rattle.fx_values.specs.declared.value.Slot.{Slot}
use Rattle.fx_plan.specs.declared.op.Op.{Op, fold-Op}
use Rattle.fx_plan.specs.declared.op.Op.TheOpen.{Op-F}

-- ---- functions of rows behind the other arguments

-- the labels of the functions of rows
abbrev pub function_labels : StreamFn → List Label
function_labels s.Filter = codes "fn" ∷ []
function_labels s.Map = codes "fn" ∷ []
function_labels s.Reduce = codes "fn" ∷ []
function_labels s.JoinInner = codes "on" ∷ codes "as" ∷ []
function_labels s.JoinLeft = codes "on" ∷ codes "as" ∷ []
function_labels s.JoinRight = codes "on" ∷ codes "as" ∷ []
function_labels s.JoinFull = codes "on" ∷ codes "as" ∷ []
function_labels s.JoinTime = codes "as" ∷ []
function_labels _ = []

abbrev pub push_given : Slots → Label → Option Val → Slots
push_given args x None = args
push_given args x (Some v) = push args x v

-- what stands at the labels, behind others
abbrev pub pushed : List Label → Slots → Slots → Slots
pushed [] args others = others
pushed (x ∷ xs) args others = pushed xs args (push_given others x (look x args))

abbrev pub plain_args : StreamFn → Slots → Slots
plain_args g args = keep (λ x. not (listed x (function_labels g))) args

abbrev pub arranged_args : StreamFn → Slots → Slots
arranged_args g args = pushed (function_labels g) args (plain_args g args)

-- the stream with the functions of rows of each call behind its other arguments
abbrev mutual
  pub arranged : Stream → Stream
  arranged (applied g place inputs args) = applied g place (all_arranged inputs) (arranged_args g args)

  pub all_arranged : Streams → Streams
  all_arranged no_streams = no_streams
  all_arranged (more_streams call calls) = more_streams (arranged call) (all_arranged calls)

-- ---- the stream of a plan

-- the stored source of a kind; there is none of times, as of a yield there are no tables
abbrev pub stored_fn : Kind → StreamFn
stored_fn kind.Int = s.From
stored_fn kind.Text = s.Texts
stored_fn kind.Bool = s.Bools
stored_fn kind.Time = s.Yield

abbrev pub args_of : List Slot → Slots
args_of args = slots_of (map slot args)

abbrev pub literal : Closure → Val
literal f = closure_val (closed f)

abbrev pub literals_behind : Slots → Label → List Closure → Slots
literals_behind args x [] = args
literals_behind args x (f ∷ fs) = literals_behind (push args x (literal f)) x fs

abbrev pub one : Stream → Streams
one call = more_streams call no_streams

abbrev pub two : Stream → Stream → Streams
two left right = more_streams left (one right)

abbrev pub op_shape : Op-F Stream → Stream
op_shape (Op-F.From place args k) = applied (stored_fn k) place no_streams (args_of args)
op_shape (Op-F.ArrayFrom place args) = applied s.ArrayFrom place no_streams (args_of args)
op_shape (Op-F.Range place args input) = applied s.Range place (one input) (args_of args)
op_shape (Op-F.Filter place args fs input) = applied s.Filter place (one input) (literals_behind (args_of args) (codes "fn") fs)
op_shape (Op-F.Map place args f input) = applied s.Map place (one input) (push (args_of args) (codes "fn") (literal f))
op_shape (Op-F.Group place args input) = applied s.Group place (one input) (args_of args)
op_shape (Op-F.Window place args input) = applied s.Window place (one input) (args_of args)
op_shape (Op-F.AggregateWindow place args input) = applied s.AggregateWindow place (one input) (args_of args)
op_shape (Op-F.Reduce place args f input) = applied s.Reduce place (one input) (push (args_of args) (codes "fn") (literal f))
op_shape (Op-F.Count place args input) = applied s.Count place (one input) (args_of args)
op_shape (Op-F.Sum place args input) = applied s.Sum place (one input) (args_of args)
op_shape (Op-F.Spread place args input) = applied s.Spread place (one input) (args_of args)
op_shape (Op-F.Distinct place args input) = applied s.Distinct place (one input) (args_of args)
op_shape (Op-F.Min place args input) = applied s.Min place (one input) (args_of args)
op_shape (Op-F.Max place args input) = applied s.Max place (one input) (args_of args)
op_shape (Op-F.First place args input) = applied s.First place (one input) (args_of args)
op_shape (Op-F.Last place args input) = applied s.Last place (one input) (args_of args)
op_shape (Op-F.Keep place args input) = applied s.Keep place (one input) (args_of args)
op_shape (Op-F.DropColumns place args input) = applied s.DropColumns place (one input) (args_of args)
op_shape (Op-F.Rename place args input) = applied s.Rename place (one input) (args_of args)
op_shape (Op-F.Duplicate place args input) = applied s.Duplicate place (one input) (args_of args)
op_shape (Op-F.Set place args input) = applied s.Set place (one input) (args_of args)
op_shape (Op-F.Fill place args input) = applied s.Fill place (one input) (args_of args)
op_shape (Op-F.Sort place args input) = applied s.Sort place (one input) (args_of args)
op_shape (Op-F.Limit place args input) = applied s.Limit place (one input) (args_of args)
op_shape (Op-F.Tail place args input) = applied s.Tail place (one input) (args_of args)
op_shape (Op-F.Difference place args input) = applied s.Difference place (one input) (args_of args)
op_shape (Op-F.CumulativeSum place args input) = applied s.CumulativeSum place (one input) (args_of args)
op_shape (Op-F.Elapsed place args input) = applied s.Elapsed place (one input) (args_of args)
op_shape (Op-F.Union place args inputs) = applied s.Union place (streams_of inputs) (args_of args)
op_shape (Op-F.Pivot place args input) = applied s.Pivot place (one input) (args_of args)
op_shape (Op-F.JoinInner place args on both left right) = applied s.JoinInner place (two left right) (push (push (args_of args) (codes "on") (literal on)) (codes "as") (literal both))
op_shape (Op-F.JoinLeft place args on both left right) = applied s.JoinLeft place (two left right) (push (push (args_of args) (codes "on") (literal on)) (codes "as") (literal both))
op_shape (Op-F.JoinRight place args on both left right) = applied s.JoinRight place (two left right) (push (push (args_of args) (codes "on") (literal on)) (codes "as") (literal both))
op_shape (Op-F.JoinFull place args on both left right) = applied s.JoinFull place (two left right) (push (push (args_of args) (codes "on") (literal on)) (codes "as") (literal both))
op_shape (Op-F.JoinTime place args both left right) = applied s.JoinTime place (two left right) (push (args_of args) (codes "as") (literal both))
op_shape (Op-F.Texts place args k) = applied (stored_fn k) place no_streams (args_of args)
op_shape (Op-F.Bools place args k) = applied (stored_fn k) place no_streams (args_of args)

unfoldable pub stream_of : Op → Stream
stream_of = fold-Op Stream op_shape

abbrev pub streams_in : List Op → Streams
streams_in plans = streams_of (map stream_of plans)
