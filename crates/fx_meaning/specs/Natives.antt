-- What calls of the language's own functions give.
use Rattle.std.specs.Prelude.{ℕ, ◌&&◌, ◌++◌, not, Bool, true, false, List, [], ◌∷◌, length, Option, None, Some, Result, Ok, Err, ℤ, pos, codes, if◌then◌else◌}
use Rattle.std.specs.List.{filter, list_all, list_any}
use Rattle.std.specs.Ordering.{is_eq}
use Rattle.fx_base.specs.Text.{same_text}
use Rattle.fx_base.specs.declared.fault.FaultKind.{FaultKind}
use Rattle.fx_base.specs.declared.place.Place.{Place}
use Rattle.fx_ops.specs.Binary.{is_like}
use Rattle.fx_ops.specs.Call.{called}
use Rattle.fx_ops.specs.Convert.{converted, is_convertible}
use Rattle.fx_ops.specs.Parts.{all_limited, parts}
use Rattle.fx_ops.specs.Signatures.{takes_arguments}
use Rattle.fx_ops.specs.declared.function.ScalarFn.{ScalarFn}
use Rattle.fx_ops.specs.declared.function.ScalarFn.TheVariants as f
use Rattle.fx_schemes.specs.Signature.{required_of}
use Rattle.fx_time.specs.declared.span.Span.{Span}
use Rattle.fx_types.specs.Ground.{listed}
use Rattle.fx_value.specs.Ends.{End, Stuck}
use Rattle.fx_value.specs.Scalar.{kind_of, scalar_cmp}
use Rattle.fx_value.specs.declared.scalar.Kind.{Kind}
use Rattle.fx_value.specs.declared.scalar.Scalar.{Scalar}
use Rattle.fx_value.specs.declared.scalar.Scalar.TheVariants as scalar
use Rattle.fx_meaning.specs.declared.native.Native.{Native}
use Rattle.fx_meaning.specs.declared.native.Native.TheVariants as n
use Rattle.fx_meaning.specs.declared.stream.StreamFn.{StreamFn}
use Rattle.fx_meaning.specs.declared.stream.StreamFn.TheVariants as s
use Rattle.fx_meaning.specs.Ends.{◌>>=◌, pure, answered, cell_at}
use Rattle.fx_meaning.specs.Forms.{argument, cell_in, cell_of, each, items_of, span_in, stream_in, streams_from, val_list}
use Rattle.fx_meaning.specs.Native.{scalar_builtin}
use Rattle.fx_meaning.specs.Value.{Label, Val, cell, array, stream, shown, Vals, no_vals, more_vals, Slots, look, push, keep, Stream, applied}

-- ---- functions on scalars, arrays and texts

abbrev pub convert_call : Place → Kind → Scalar → End Val
convert_call place k a = if is_convertible k a then cell_at place (converted k a) else Stuck

-- whether an element is the value; null is none, and nothing is known of null
abbrev pub has_equal : Scalar → List Scalar → Bool
has_equal value items = list_any (λ a. is_eq (scalar_cmp value a)) items

abbrev pub is_in : Scalar → List Scalar → Scalar
is_in scalar.Null items = scalar.Null
is_in value items = scalar.Bool (has_equal value items)

abbrev pub contains : Scalar → List Scalar → End Val
contains value items = if list_all (λ a. is_like (kind_of value) a) items then pure (cell (is_in value items)) else Stuck

abbrev pub texts_made : List (List ℕ) → Vals
texts_made [] = no_vals
texts_made (t ∷ ts) = more_vals (cell (scalar.Text t)) (texts_made ts)

abbrev pub texts_array : List (List ℕ) → End Val
texts_array ts = pure (array (texts_made ts))

abbrev pub no_items : End Val
no_items = pure (array no_vals)

abbrev pub split_parts : Place → List ℕ → List ℕ → End Val
split_parts place text by = do
  ts ← answered place (all_limited (parts by text))
  texts_array ts

-- an empty array where one is null
abbrev pub split_by : Place → List ℕ → Scalar → End Val
split_by place text (scalar.Text by) = split_parts place text by
split_by place text scalar.Null = no_items
split_by place text _ = Stuck

abbrev pub split_null : Scalar → End Val
split_null (scalar.Text by) = no_items
split_null scalar.Null = no_items
split_null _ = Stuck

abbrev pub split : Place → Scalar → Scalar → End Val
split place (scalar.Text text) by = split_by place text by
split place scalar.Null by = split_null by
split place _ by = Stuck

-- ---- functions of `strings` and `date`

-- the label of the duration, and that of the array of texts
abbrev pub span_label : ScalarFn → Option Label
span_label f.Truncate = Some (codes "unit")
span_label f.Add = Some (codes "d")
span_label f.Sub = Some (codes "d")
span_label _ = None

abbrev pub list_label : ScalarFn → Option Label
list_label f.JoinStr = Some (codes "arr")
list_label _ = None

abbrev pub is_label : Option Label → Label → Bool
is_label None x = false
is_label (Some y) x = same_text x y

-- the labels of the scalars, in their order
abbrev pub scalar_labels : ScalarFn → List Label
scalar_labels g = filter (λ x. not (is_label (span_label g) x) && not (is_label (list_label g) x)) (required_of (scalar_builtin g))

-- the scalars of an array
abbrev pub cells_in : Vals → End (List Scalar)
cells_in vs = each cell_in (val_list vs)

abbrev pub further_cells : Option Label → Slots → End (List Scalar)
further_cells None args = pure []
further_cells (Some x) args = items_of x args >>= cells_in

abbrev pub no_span : Span
no_span = record { months = pos 0; nanos = pos 0 }

abbrev pub span_of : Option Label → Slots → End Span
span_of None args = pure no_span
span_of (Some x) args = argument x args >>= span_in

abbrev pub scalar_answer : Place → ScalarFn → List Scalar → Span → End Val
scalar_answer place g scalars d = if takes_arguments g scalars then cell_at place (called g scalars d) else Stuck

abbrev pub scalar_call : Place → ScalarFn → Slots → End Val
scalar_call place g args = do
  scalars ← each (λ x. cell_of x args) (scalar_labels g)
  texts ← further_cells (list_label g) args
  d ← span_of (span_label g) args
  scalar_answer place g (scalars ++ texts) d

-- ---- functions that make or take streams

-- the labels of the inputs; `union` has all of them in one array
abbrev pub input_labels : StreamFn → List Label
input_labels s.From = []
input_labels s.Texts = []
input_labels s.Bools = []
input_labels s.ArrayFrom = []
input_labels s.JoinInner = codes "left" ∷ codes "right" ∷ []
input_labels s.JoinLeft = codes "left" ∷ codes "right" ∷ []
input_labels s.JoinRight = codes "left" ∷ codes "right" ∷ []
input_labels s.JoinFull = codes "left" ∷ codes "right" ∷ []
input_labels s.JoinTime = codes "left" ∷ codes "right" ∷ []
input_labels _ = codes "tables" ∷ []

-- the stream that is the argument at a label
abbrev pub stream_of : Label → Slots → End Stream
stream_of x args = argument x args >>= stream_in

abbrev pub inputs_of : StreamFn → Slots → End (List Stream)
inputs_of s.Union args = items_of (codes "tables") args >>= (λ vs. each stream_in (val_list vs))
inputs_of g args = each (λ x. stream_of x args) (input_labels g)

-- the arguments that are no inputs, as the call gives them
abbrev pub further_args : StreamFn → Slots → Slots
further_args g args = keep (λ x. not (listed x (input_labels g))) args

-- `range` keeps the moment, to which durations are added
abbrev pub with_moment : StreamFn → ℤ → Slots → Slots
with_moment s.Range moment args = push args (codes "now") (cell (scalar.Time moment))
with_moment _ moment args = args

abbrev pub is_name : Scalar → Bool
is_name (scalar.Text text) = true
is_name scalar.Null = true
is_name _ = false

abbrev pub shown_as : Place → Stream → Scalar → End Val
shown_as place call name = if is_name name then pure (shown name place call) else Stuck

abbrev pub given_name : Option Val → End Scalar
given_name None = pure (scalar.Text (codes "_result"))
given_name (Some (cell a)) = pure a
given_name (Some _) = Stuck

-- `yield` shows its input, under `_result` where it gives no name
abbrev pub yielded : Place → Slots → End Val
yielded place args = do
  call ← stream_of (codes "tables") args
  name ← given_name (look (codes "name") args)
  shown_as place call name

abbrev pub stream_made : Place → ℤ → StreamFn → Slots → End Val
stream_made place moment g args = do
  inputs ← inputs_of g args
  pure (stream (applied g place (streams_from inputs) (with_moment g moment (further_args g args))))

abbrev pub stream_call : Place → ℤ → StreamFn → Slots → End Val
stream_call place moment s.Yield args = yielded place args
stream_call place moment g args = stream_made place moment g args

-- ---- all of them

abbrev pub convert_of : Place → Kind → Slots → End Val
convert_of place k args = do
  a ← cell_of (codes "v") args
  convert_call place k a

abbrev pub length_of : Place → Slots → End Val
length_of place args = do
  vs ← items_of (codes "arr") args
  cell_at place (Ok (scalar.Int (pos (length (val_list vs)))))

abbrev pub contains_of : Slots → End Val
contains_of args = do
  value ← cell_of (codes "value") args
  vs ← items_of (codes "set") args
  items ← cells_in vs
  contains value items

abbrev pub split_of : Place → Slots → End Val
split_of place args = do
  text ← cell_of (codes "v") args
  by ← cell_of (codes "t") args
  split place text by

abbrev pub native_call : Place → ℤ → Slots → Native → End Val
native_call place moment args n.Now = pure (cell (scalar.Time moment))
native_call place moment args (n.Convert k) = convert_of place k args
native_call place moment args n.Length = length_of place args
native_call place moment args n.Contains = contains_of args
native_call place moment args n.Split = split_of place args
native_call place moment args (n.Scalar g) = scalar_call place g args
native_call place moment args (n.Stream g) = stream_call place moment g args
