-- Values that don't have the form that a rule takes.
use Rattle.std.proofs.Common.{◌≡◌, refl, Bool, false, List, ℕ}
use Rattle.std.specs.declared.alloc.Global.{Global}
use Rattle.std.specs.declared.rc.Rc.{Rc}
use Rattle.fx_meaning.specs.Forms.{cell_in, cell_or_span, fields_in, items_in, pattern_in, span_in, stream_in}
use Rattle.fx_meaning.specs.Operators.{is_truth}
use Rattle.fx_meaning.specs.Value.{Val, cell, span, pattern, array, rec, closure, native, in_package, stream, shown}
use Rattle.fx_time.specs.declared.span.Span.{Span}
use Rattle.fx_value.specs.Ends.{Stuck}
use Rattle.fx_value.specs.declared.scalar.Scalar.{Scalar}
use Rattle.fx_values.specs.Shape.{val}
use Rattle.fx_values.specs.declared.value.Slot.{Slot}
use Rattle.fx_values.specs.declared.value.StreamCall.{StreamCall}
use Rattle.fx_values.specs.declared.value.Value.{Value}
use Rattle.fx_values.specs.declared.value.Value.TheVariants as v
use Rattle.fx_values.proofs.ValueLaws.{Opens, opens}

cell_else : (w : Value) (d : Val) → Opens w d → ((a : Scalar) → ¬ (w ≡ v.Cell a)) → cell_in d ≡ Stuck
cell_else w (cell x) o none = absurd (none x o)
cell_else w (span x) o none = refl
cell_else w (pattern x) o none = refl
cell_else w (array x) o none = refl
cell_else w (rec x) o none = refl
cell_else w (closure a b c d e) o none = refl
cell_else w (native x) o none = refl
cell_else w (in_package x) o none = refl
cell_else w (stream x) o none = refl
cell_else w (shown a b c) o none = refl

pub not_cell : (w : Value) → ((a : Scalar) → ¬ (w ≡ v.Cell a)) → cell_in (val w) ≡ Stuck
not_cell w none = cell_else w (val w) (opens w) none

items_else : (w : Value) (d : Val) → Opens w d → ((a : Rc (List Value) Global) → ¬ (w ≡ v.List a)) → items_in d ≡ Stuck
items_else w (cell x) o none = refl
items_else w (span x) o none = refl
items_else w (pattern x) o none = refl
items_else w (array x) o none = absurd (none o.0 o.1)
items_else w (rec x) o none = refl
items_else w (closure a b c d e) o none = refl
items_else w (native x) o none = refl
items_else w (in_package x) o none = refl
items_else w (stream x) o none = refl
items_else w (shown a b c) o none = refl

pub not_items : (w : Value) → ((a : Rc (List Value) Global) → ¬ (w ≡ v.List a)) → items_in (val w) ≡ Stuck
not_items w none = items_else w (val w) (opens w) none

fields_else : (w : Value) (d : Val) → Opens w d → ((a : Rc (List Slot) Global) → ¬ (w ≡ v.Rec a)) → fields_in d ≡ Stuck
fields_else w (cell x) o none = refl
fields_else w (span x) o none = refl
fields_else w (pattern x) o none = refl
fields_else w (array x) o none = refl
fields_else w (rec x) o none = absurd (none o.0 o.1)
fields_else w (closure a b c d e) o none = refl
fields_else w (native x) o none = refl
fields_else w (in_package x) o none = refl
fields_else w (stream x) o none = refl
fields_else w (shown a b c) o none = refl

pub not_fields : (w : Value) → ((a : Rc (List Slot) Global) → ¬ (w ≡ v.Rec a)) → fields_in (val w) ≡ Stuck
not_fields w none = fields_else w (val w) (opens w) none

span_else : (w : Value) (d : Val) → Opens w d → ((a : Span) → ¬ (w ≡ v.Span a)) → span_in d ≡ Stuck
span_else w (cell x) o none = refl
span_else w (span x) o none = absurd (none x o)
span_else w (pattern x) o none = refl
span_else w (array x) o none = refl
span_else w (rec x) o none = refl
span_else w (closure a b c d e) o none = refl
span_else w (native x) o none = refl
span_else w (in_package x) o none = refl
span_else w (stream x) o none = refl
span_else w (shown a b c) o none = refl

pub not_span : (w : Value) → ((a : Span) → ¬ (w ≡ v.Span a)) → span_in (val w) ≡ Stuck
not_span w none = span_else w (val w) (opens w) none

stream_else : (w : Value) (d : Val) → Opens w d → ((a : Rc StreamCall Global) → ¬ (w ≡ v.Stream a)) → stream_in d ≡ Stuck
stream_else w (cell x) o none = refl
stream_else w (span x) o none = refl
stream_else w (pattern x) o none = refl
stream_else w (array x) o none = refl
stream_else w (rec x) o none = refl
stream_else w (closure a b c d e) o none = refl
stream_else w (native x) o none = refl
stream_else w (in_package x) o none = refl
stream_else w (stream x) o none = absurd (none o.0 o.1)
stream_else w (shown a b c) o none = refl

pub not_stream : (w : Value) → ((a : Rc StreamCall Global) → ¬ (w ≡ v.Stream a)) → stream_in (val w) ≡ Stuck
not_stream w none = stream_else w (val w) (opens w) none

pattern_else : (w : Value) (d : Val) → Opens w d → ((a : ℕ) → ¬ (w ≡ v.Pattern a)) → pattern_in d ≡ Stuck
pattern_else w (cell x) o none = refl
pattern_else w (span x) o none = refl
pattern_else w (pattern x) o none = absurd (none x o)
pattern_else w (array x) o none = refl
pattern_else w (rec x) o none = refl
pattern_else w (closure a b c d e) o none = refl
pattern_else w (native x) o none = refl
pattern_else w (in_package x) o none = refl
pattern_else w (stream x) o none = refl
pattern_else w (shown a b c) o none = refl

pub not_pattern : (w : Value) → ((a : ℕ) → ¬ (w ≡ v.Pattern a)) → pattern_in (val w) ≡ Stuck
not_pattern w none = pattern_else w (val w) (opens w) none

module _ {A : Type 0} (of_cell : Scalar → A) (of_span : Span → A) (other : A) where
  other_else : (w : Value) (d : Val) → Opens w d → ((a : Scalar) → ¬ (w ≡ v.Cell a)) → ((a : Span) → ¬ (w ≡ v.Span a)) → cell_or_span of_cell of_span other d ≡ other
  other_else w (cell x) o cells spans = absurd (cells x o)
  other_else w (span x) o cells spans = absurd (spans x o)
  other_else w (pattern x) o cells spans = refl
  other_else w (array x) o cells spans = refl
  other_else w (rec x) o cells spans = refl
  other_else w (closure a b c d e) o cells spans = refl
  other_else w (native x) o cells spans = refl
  other_else w (in_package x) o cells spans = refl
  other_else w (stream x) o cells spans = refl
  other_else w (shown a b c) o cells spans = refl

  pub not_cell_or_span : (w : Value) → ((a : Scalar) → ¬ (w ≡ v.Cell a)) → ((a : Span) → ¬ (w ≡ v.Span a)) → cell_or_span of_cell of_span other (val w) ≡ other
  not_cell_or_span w cells spans = other_else w (val w) (opens w) cells spans

truth_else : (truth : Bool) (w : Value) (d : Val) → Opens w d → ((a : Scalar) → ¬ (w ≡ v.Cell a)) → is_truth truth d ≡ false
truth_else truth w (cell x) o none = absurd (none x o)
truth_else truth w (span x) o none = refl
truth_else truth w (pattern x) o none = refl
truth_else truth w (array x) o none = refl
truth_else truth w (rec x) o none = refl
truth_else truth w (closure a b c d e) o none = refl
truth_else truth w (native x) o none = refl
truth_else truth w (in_package x) o none = refl
truth_else truth w (stream x) o none = refl
truth_else truth w (shown a b c) o none = refl

pub not_truth : (truth : Bool) (w : Value) → ((a : Scalar) → ¬ (w ≡ v.Cell a)) → is_truth truth (val w) ≡ false
not_truth truth w none = truth_else truth w (val w) (opens w) none
