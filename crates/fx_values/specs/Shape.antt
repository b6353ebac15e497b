-- The plain data of a value.
use Rattle.std.specs.Prelude.{List, [], ◌∷◌, map}
use Rattle.fx_ast.specs.Shape.{body, param, params_of}
use Rattle.fx_ast.specs.Tree.{Params, Props, Tree}
use Rattle.fx_base.specs.declared.place.Place.{Place}
use Rattle.fx_meaning.specs.Value.{Label, Val, cell, span, pattern, array, rec, closure, native, in_package, stream, shown, Vals, no_vals, more_vals, Slots, no_slots, more_slots, Stream, applied, Streams, no_streams, more_streams}
use Rattle.fx_meaning.specs.declared.setting.Setting.{Setting}
use Rattle.fx_value.specs.declared.scalar.Scalar.{Scalar}
use Rattle.fx_values.specs.declared.value.Closure.{Closure, fold-Closure}
use Rattle.fx_values.specs.declared.value.Shown.{Shown, fold-Shown}
use Rattle.fx_values.specs.declared.value.Slot.{Slot, fold-Slot}
use Rattle.fx_values.specs.declared.value.StreamCall.{StreamCall, fold-StreamCall}
use Rattle.fx_values.specs.declared.value.Value.{Value, fold-Value}
use Rattle.fx_values.specs.declared.value.Value.TheOpen.{Value-F, Closure-F, Shown-F, Slot-F, StreamCall-F}

pub record OfSlot : Type 0 where
  pub label : Label
  pub value : Val

pub record OfClosure : Type 0 where
  pub params : Params
  pub lets : Props
  pub result : Tree
  pub captured : Slots
  pub setting : Setting

pub record OfShown : Type 0 where
  pub name : Scalar
  pub place : Place
  pub stream : Stream

abbrev pub vals_of : List Val → Vals
vals_of [] = no_vals
vals_of (v ∷ vs) = more_vals v (vals_of vs)

abbrev pub slots_of : List OfSlot → Slots
slots_of [] = no_slots
slots_of (s ∷ ss) = more_slots s.label s.value (slots_of ss)

abbrev pub streams_of : List Stream → Streams
streams_of [] = no_streams
streams_of (c ∷ cs) = more_streams c (streams_of cs)

abbrev pub closure_val : OfClosure → Val
closure_val c = closure c.params c.lets c.result c.captured c.setting

abbrev pub value_shape : Value-F Val OfClosure OfShown OfSlot Stream → Val
value_shape (Value-F.Cell a) = cell a
value_shape (Value-F.Span d) = span d
value_shape (Value-F.Pattern n) = pattern n
value_shape (Value-F.List vs) = array (vals_of vs.value)
value_shape (Value-F.Rec fields) = rec (slots_of fields.value)
value_shape (Value-F.Fun c) = closure_val c.value
value_shape (Value-F.Native g) = native g
value_shape (Value-F.Package p) = in_package p
value_shape (Value-F.Stream c) = stream c.value
value_shape (Value-F.Done s) = shown s.value.name s.value.place s.value.stream

abbrev pub closure_shape : Closure-F Val OfClosure OfShown OfSlot Stream → OfClosure
closure_shape c = record {
  params = params_of (map param c.params);
  lets = (body c.body).lets;
  result = (body c.body).result;
  captured = slots_of c.captured.value;
  setting = c.setting.value;
}

abbrev pub shown_shape : Shown-F Val OfClosure OfShown OfSlot Stream → OfShown
shown_shape s = record { name = s.name; place = s.place; stream = s.stream.value }

abbrev pub slot_shape : Slot-F Val OfClosure OfShown OfSlot Stream → OfSlot
slot_shape s = record { label = s.label; value = s.value }

abbrev pub stream_shape : StreamCall-F Val OfClosure OfShown OfSlot Stream → Stream
stream_shape c = applied c.which c.place (streams_of (map (λ i. i.value) c.inputs)) (slots_of c.args)

unfoldable pub val : Value → Val
val = fold-Value Val OfClosure OfShown OfSlot Stream value_shape closure_shape shown_shape slot_shape stream_shape

unfoldable pub closed : Closure → OfClosure
closed = fold-Closure Val OfClosure OfShown OfSlot Stream value_shape closure_shape shown_shape slot_shape stream_shape

unfoldable pub slot : Slot → OfSlot
slot = fold-Slot Val OfClosure OfShown OfSlot Stream value_shape closure_shape shown_shape slot_shape stream_shape

unfoldable pub call : StreamCall → Stream
call = fold-StreamCall Val OfClosure OfShown OfSlot Stream value_shape closure_shape shown_shape slot_shape stream_shape

unfoldable pub show : Shown → OfShown
show = fold-Shown Val OfClosure OfShown OfSlot Stream value_shape closure_shape shown_shape slot_shape stream_shape
