-- What values are to a rule: Stuck where a value doesn't have the form that the rule takes.
use Rattle.std.specs.Prelude.{ℕ, Bool, false, List, [], ◌∷◌, Option, None, Some}
use Rattle.fx_time.specs.declared.span.Span.{Span}
use Rattle.fx_value.specs.Ends.{End, Stuck}
use Rattle.fx_value.specs.declared.scalar.Scalar.{Scalar}
use Rattle.fx_value.specs.declared.scalar.Scalar.TheVariants as scalar
use Rattle.fx_meaning.specs.Ends.{◌>>=◌, pure, found}
use Rattle.fx_meaning.specs.Value.{Label, Val, cell, span, pattern, array, rec, stream, Vals, no_vals, more_vals, Slots, look, Stream, Streams, no_streams, more_streams}

abbrev pub cell_in : Val → End Scalar
cell_in (cell a) = pure a
cell_in _ = Stuck

-- what is made of a scalar, of a duration, and of any other value
abbrev pub cell_or_span : {A : Type 0} → (Scalar → A) → (Span → A) → A → Val → A
cell_or_span of_cell of_span other (cell a) = of_cell a
cell_or_span of_cell of_span other (span d) = of_span d
cell_or_span of_cell of_span other _ = other

abbrev pub pattern_in : Val → End ℕ
pattern_in (pattern number) = pure number
pattern_in _ = Stuck

abbrev pub items_in : Val → End Vals
items_in (array vs) = pure vs
items_in _ = Stuck

abbrev pub fields_in : Val → End Slots
fields_in (rec slots) = pure slots
fields_in _ = Stuck

abbrev pub span_in : Val → End Span
span_in (span d) = pure d
span_in _ = Stuck

abbrev pub stream_in : Val → End Stream
stream_in (stream call) = pure call
stream_in _ = Stuck

-- a Boolean, or None for null
abbrev pub flag_of : Scalar → End (Option Bool)
flag_of (scalar.Bool b) = pure (Some b)
flag_of scalar.Null = pure None
flag_of _ = Stuck

abbrev pub flag_in : Val → End (Option Bool)
flag_in v = cell_in v >>= flag_of

-- the test of an `if`; null is false
abbrev pub truth_of : Option Bool → Bool
truth_of (Some b) = b
truth_of None = false

abbrev pub truth_in : Val → End Bool
truth_in v = do
  a ← flag_in v
  pure (truth_of a)

-- what is made of each item, in order; the first that ends without a value ends all
abbrev pub each : {X Y : Type 0} → (X → End Y) → List X → End (List Y)
each step [] = pure []
each step (x ∷ xs) = do
  y ← step x
  ys ← each step xs
  pure (y ∷ ys)

-- the argument at a label
abbrev pub argument : Label → Slots → End Val
argument x args = found (look x args)

abbrev pub cell_of : Label → Slots → End Scalar
cell_of x args = argument x args >>= cell_in

abbrev pub items_of : Label → Slots → End Vals
items_of x args = argument x args >>= items_in

-- the values of an array as an ordinary list, and streams from one
abbrev pub val_list : Vals → List Val
val_list no_vals = []
val_list (more_vals v vs) = v ∷ val_list vs

abbrev pub streams_from : List Stream → Streams
streams_from [] = no_streams
streams_from (c ∷ cs) = more_streams c (streams_from cs)
