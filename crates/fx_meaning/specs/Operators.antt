-- What operators, signs, texts, indices and members make of values.
use Rattle.std.specs.Prelude.{ℕ, ◌&&◌, ◌||◌, ◌++◌, not, Bool, true, false, List, Option, None, Some, Result, Ok, Err, ℤ, pos, negsuc, neg_ℤ, slice_get, if◌then◌else◌}
use Rattle.std.specs.Fmt.{signed_decimal}
use Rattle.std.specs.Ordering.{int_eq}
use Rattle.fx_ast.specs.declared.expr.Infix.{Infix}
use Rattle.fx_ast.specs.declared.expr.Infix.TheVariants as infix_of
use Rattle.fx_ast.specs.declared.expr.Prefix.{Prefix}
use Rattle.fx_ast.specs.declared.expr.Prefix.TheVariants as sign
use Rattle.fx_base.specs.declared.fault.FaultKind.{FaultKind}
use Rattle.fx_base.specs.declared.fault.FaultKind.TheVariants.{IndexRange, Overflow}
use Rattle.fx_base.specs.declared.place.Place.{Place}
use Rattle.fx_ops.specs.Binary.{binary_of, is_taken}
use Rattle.fx_ops.specs.Convert.{bool_text}
use Rattle.fx_ops.specs.Limit.{limited}
use Rattle.fx_ops.specs.Whole.{in_64_bits, negation, takes_sign}
use Rattle.fx_ops.specs.declared.operator.BinaryOp.{BinaryOp}
use Rattle.fx_ops.specs.declared.operator.BinaryOp.TheVariants as op
use Rattle.fx_time.specs.Time.{time_text}
use Rattle.fx_time.specs.declared.span.Span.{Span}
use Rattle.fx_value.specs.Ends.{End, Stuck}
use Rattle.fx_value.specs.declared.scalar.Scalar.{Scalar}
use Rattle.fx_value.specs.declared.scalar.Scalar.TheVariants as scalar
use Rattle.fx_meaning.specs.Ends.{◌>>=◌, pure, found, answered, cell_at}
use Rattle.fx_meaning.specs.Forms.{cell_in, cell_or_span, flag_in, pattern_in, span_in, val_list}
use Rattle.fx_meaning.specs.Native.{member, value_if}
use Rattle.fx_meaning.specs.Value.{Label, Val, cell, span, rec, in_package, Vals, look}

-- ---- `and` and `or`

abbrev pub is_flag : Bool → Option Bool → Bool
is_flag decisive (Some b) = if decisive then b else not b
is_flag decisive None = false

abbrev pub is_known : Option Bool → Bool
is_known (Some b) = true
is_known None = false

-- a decisive operand decides; of others a null makes null
abbrev pub joined : Bool → Option Bool → Option Bool → Scalar
joined decisive a b =
    if is_flag decisive a || is_flag decisive b then scalar.Bool decisive
    else (if is_known a && is_known b then scalar.Bool (not decisive) else scalar.Null)

abbrev pub logic : Bool → Val → Val → End Val
logic decisive v w = do
  a ← flag_in v
  b ← flag_in w
  pure (cell (joined decisive a b))

-- the left operand decides, and the right one isn't read
abbrev pub is_truth_cell : Bool → Scalar → Bool
is_truth_cell truth (scalar.Bool b) = if truth then b else not b
is_truth_cell truth _ = false

abbrev pub is_truth : Bool → Val → Bool
is_truth truth (cell a) = is_truth_cell truth a
is_truth truth _ = false

abbrev pub decides : Infix → Val → Bool
decides infix_of.Or v = is_truth true v
decides infix_of.And v = is_truth false v
decides _ v = false

-- ---- other operators between two operands

abbrev pub of_cells : Place → BinaryOp → Scalar → Scalar → End Val
of_cells place which a b = if is_taken which a b then cell_at place (binary_of which a b) else Stuck

abbrev pub with_cell : Place → BinaryOp → Val → Scalar → End Val
with_cell place which w a = do
  b ← cell_in w
  of_cells place which a b

abbrev pub same_span : Span → Span → Bool
same_span d e = int_eq d.months e.months && int_eq d.nanos e.nanos

abbrev pub of_spans : BinaryOp → Span → Span → End Val
of_spans op.Eq d e = pure (cell (scalar.Bool (same_span d e)))
of_spans op.Ne d e = pure (cell (scalar.Bool (not (same_span d e))))
of_spans _ d e = Stuck

abbrev pub with_span : BinaryOp → Val → Span → End Val
with_span which w d = do
  e ← span_in w
  of_spans which d e

abbrev pub binary : Place → BinaryOp → Val → Val → End Val
binary place which v w = cell_or_span (with_cell place which w) (with_span which w) Stuck v

-- whether the text matches the pattern, or doesn't where that is asked; null for null
abbrev pub match_text : (ℕ → List ℕ → Bool) → Bool → ℕ → Scalar → End Val
match_text test wanted number (scalar.Text text) = pure (cell (scalar.Bool (if wanted then test number text else not (test number text))))
match_text test wanted number scalar.Null = pure (cell scalar.Null)
match_text test wanted number _ = Stuck

abbrev pub matched : (ℕ → List ℕ → Bool) → Bool → Val → Val → End Val
matched test wanted v w = do
  a ← cell_in v
  number ← pattern_in w
  match_text test wanted number a

-- what an operator makes of two operands
abbrev pub operate : (ℕ → List ℕ → Bool) → Place → Infix → Val → Val → End Val
operate test place infix_of.Or v w = logic true v w
operate test place infix_of.And v w = logic false v w
operate test place infix_of.Eq v w = binary place op.Eq v w
operate test place infix_of.Ne v w = binary place op.Ne v w
operate test place infix_of.Lt v w = binary place op.Lt v w
operate test place infix_of.Le v w = binary place op.Le v w
operate test place infix_of.Gt v w = binary place op.Gt v w
operate test place infix_of.Ge v w = binary place op.Ge v w
operate test place infix_of.Like v w = matched test true v w
operate test place infix_of.NotLike v w = matched test false v w
operate test place infix_of.Add v w = binary place op.Add v w
operate test place infix_of.Sub v w = binary place op.Sub v w
operate test place infix_of.Mul v w = binary place op.Mul v w
operate test place infix_of.Div v w = binary place op.Div v w
operate test place infix_of.Rem v w = binary place op.Rem v w

-- ---- operators before an operand

abbrev pub negated : Span → Result Span FaultKind
negated d =
    if in_64_bits (neg_ℤ d.months) && in_64_bits (neg_ℤ d.nanos)
    then Ok (record { months = neg_ℤ d.months; nanos = neg_ℤ d.nanos })
    else Err Overflow

abbrev pub plus_cell : Scalar → End Val
plus_cell a = if takes_sign a then pure (cell a) else Stuck

abbrev pub plus : Val → End Val
plus v = cell_or_span plus_cell (λ d. pure (span d)) Stuck v

abbrev pub minus_cell : Place → Scalar → End Val
minus_cell place a = if takes_sign a then cell_at place (negation a) else Stuck

abbrev pub minus_span : Place → Span → End Val
minus_span place d = do
  e ← answered place (negated d)
  pure (span e)

abbrev pub minus : Place → Val → End Val
minus place v = cell_or_span (minus_cell place) (minus_span place) Stuck v

abbrev pub opposite : Option Bool → Scalar
opposite (Some b) = scalar.Bool (not b)
opposite None = scalar.Null

abbrev pub negation_of : Val → End Val
negation_of v = do
  a ← flag_in v
  pure (cell (opposite a))

abbrev pub is_value : Scalar → Bool
is_value scalar.Null = false
is_value _ = true

abbrev pub exists : Val → End Val
exists v = do
  a ← cell_in v
  pure (cell (scalar.Bool (is_value a)))

abbrev pub prefixed : Place → Prefix → Val → End Val
prefixed place sign.Plus v = plus v
prefixed place sign.Minus v = minus place v
prefixed place sign.Not v = negation_of v
prefixed place sign.Exists v = exists v

-- ---- texts with interpolation

-- a scalar as it is printed, None for null
abbrev pub printed : Scalar → Option (List ℕ)
printed scalar.Null = None
printed (scalar.Bool b) = Some (bool_text b)
printed (scalar.Int n) = Some (signed_decimal n)
printed (scalar.Text text) = Some text
printed (scalar.Time t) = Some (time_text t)

abbrev pub behind : Option (List ℕ) → Option (List ℕ) → Option (List ℕ)
behind (Some text) (Some more) = Some (text ++ more)
behind _ _ = None

-- the text of all parts; null where a hole was null
abbrev pub text_made : Place → Option (List ℕ) → End Val
text_made place (Some text) = cell_at place (limited text)
text_made place None = pure (cell scalar.Null)

-- ---- items and members

abbrev pub item_or_fault : Option Val → Result Val FaultKind
item_or_fault (Some v) = Ok v
item_or_fault None = Err IndexRange

abbrev pub item : Vals → ℤ → Result Val FaultKind
item vs (pos n) = item_or_fault (slice_get (val_list vs) n)
item vs (negsuc n) = Err IndexRange

abbrev pub indexed : Place → Vals → Scalar → End Val
indexed place vs (scalar.Int n) = answered place (item vs n)
indexed place vs scalar.Null = answered place (Err IndexRange)
indexed place vs _ = Stuck

-- what a record lacks reads as null
abbrev pub or_null : Option Val → Val
or_null (Some v) = v
or_null None = cell scalar.Null

abbrev pub member_of : Val → Label → End Val
member_of (rec fields) x = pure (or_null (look x fields))
member_of (in_package p) x = found (value_if (member p x))
member_of _ x = Stuck
