-- How code describes lines: by simple types, and rows whose labels may be words of the call.
use Rattle.std.specs.Prelude.{◌+◌, ℕ, true, false, List, [], ◌∷◌, ◌++◌, Option, None, Some, map, codes}
use Rattle.std.specs.Borrow.{Bor}
use Rattle.fx_types.specs.Term.{Label, Term, bool, int, text, time, span, type_variable, array, fun, rec, stream, Labels, no_labels, more_labels, no_pipe, by_pipe, Field, absent, is, Fields, no_fields, default, row_variable}
use Rattle.fx_types.specs.Shape.{OfField, OfLabel, labels_of, fields_of}
use Rattle.fx_value.specs.declared.scalar.Kind.{Kind}
use Rattle.fx_value.specs.declared.scalar.Kind.TheVariants as kind
use Rattle.fx_schemes.specs.declared.builtin_type.KindBound as bounds
use Rattle.fx_schemes.specs.declared.simple.Simple as simples
use Rattle.fx_schemes.specs.declared.simple.Simple.TheVariants as simple
use Rattle.fx_schemes.specs.declared.simple.Bound as kinds
use Rattle.fx_schemes.specs.declared.simple.Bound.TheVariants as bound
use Rattle.fx_schemes.specs.declared.plan.Variables as plans
use Rattle.fx_schemes.specs.declared.plan.Plan as plan
use Rattle.fx_schemes.specs.declared.plan.At as ats
use Rattle.fx_schemes.specs.declared.plan.At.TheVariants as at
use Rattle.fx_schemes.specs.Given.{Given, text_at, texts_of}
use Rattle.fx_schemes.specs.Scheme.{Scheme}

abbrev pub simple_term : simples.Simple → Term
simple_term simple.Bool = bool
simple_term simple.Int = int
simple_term simple.Text = text
simple_term simple.Time = time
simple_term simple.Span = span
simple_term (simple.Var n) = type_variable n
simple_term simple.Texts = array text
simple_term (simple.Array n) = array (type_variable n)

abbrev pub cell_field : Option simples.Simple → Field
cell_field None = absent
cell_field (Some s) = is (simple_term s)

abbrev pub to_kinds : ℕ → List Kind → bounds.KindBound
to_kinds n ks = record { var = n; kinds = ks; span = false }

abbrev pub to_moments : ℕ → bounds.KindBound
to_moments n = record { var = n; kinds = kind.Time ∷ []; span = true }

abbrev pub bounds_of : kinds.Bound → List bounds.KindBound
bounds_of bound.Free = []
bounds_of bound.Column = to_kinds 0 (kind.Bool ∷ kind.Int ∷ kind.Text ∷ kind.Time ∷ []) ∷ []
bounds_of bound.Ordered = to_kinds 0 (kind.Int ∷ kind.Time ∷ []) ∷ []
bounds_of bound.ToBool = to_kinds 0 (kind.Bool ∷ kind.Int ∷ kind.Text ∷ []) ∷ []
bounds_of bound.ToTime = to_kinds 0 (kind.Time ∷ kind.Int ∷ kind.Text ∷ []) ∷ []
bounds_of bound.Moments = to_moments 0 ∷ to_moments 1 ∷ []

-- a label of a row with what the row has there, and a parameter, as code lends them
abbrev pub Cell : Type 0
Cell = Label × Option simples.Simple

abbrev pub Param : Type 0
Param = Label × simples.Simple

abbrev pub cells_of : List (Bor (List ℕ) × Option simples.Simple) → List Cell
cells_of cs = map (λ c. (c.0.now, c.1)) cs

abbrev pub params_of : List (Bor (List ℕ) × simples.Simple) → List Param
params_of ps = map (λ p. (p.0.now, p.1)) ps

abbrev pub entry_of : Cell → OfField
entry_of c = record { label = c.0; field = cell_field c.1 }

abbrev pub param_of : Param → OfLabel
param_of p = record { label = p.0; type = simple_term p.1 }

abbrev pub fields_in : List Cell → Fields
fields_in cs = fields_of (map entry_of cs)

abbrev pub labels_in : List Param → Labels
labels_in ps = labels_of (map param_of ps)

abbrev pub labelled : Label → Term → OfLabel
labelled x t = record { label = x; type = t }

abbrev pub record_of : ℕ → Term
record_of n = rec no_fields (row_variable n)

abbrev pub row_function : ℕ → Term → Term
row_function n t = fun (more_labels (codes "r") (record_of n) no_labels) no_pipe t

abbrev pub step_function : Term
step_function = fun (labels_of (labelled (codes "r") (record_of 0) ∷ labelled (codes "accumulator") (record_of 1) ∷ [])) no_pipe (record_of 1)

abbrev pub side_of : List Cell → ℕ → Term
side_of cs n = rec (fields_in cs) (row_variable n)

abbrev pub sides_function : List Cell → Term → Term
sides_function cs t = fun (labels_of (labelled (codes "l") (side_of cs 0) ∷ labelled (codes "r") (side_of cs 1) ∷ [])) no_pipe t

-- the columns of these labels, each of a type variable of its own
abbrev pub columns_from : ℕ → List Label → List Cell
columns_from n [] = []
columns_from n (x ∷ xs) = (x, Some (simple.Var n)) ∷ columns_from (n + 1) xs

-- the labels without a column
abbrev pub absents : List Label → List Cell
absents xs = map (λ x. (x, None)) xs

abbrev pub all_texts : List Label → List Cell
all_texts ys = map (λ y. (y, Some simple.Text)) ys

-- what code makes of these, as plain data

abbrev pub value_scheme : Term → Scheme
value_scheme t = record { vars = 0; type = t; optional = no_labels; pipe_label = None; labels = []; kinds = [] }

abbrev pub call_scheme : Labels → Term → plans.Variables → Scheme
call_scheme ls t v = record { vars = v.count; type = fun ls no_pipe t; optional = no_labels; pipe_label = None; labels = []; kinds = bounds_of v.bound }

abbrev pub scalar_scheme : List Param → simples.Simple → plans.Variables → Scheme
scalar_scheme ps t v = call_scheme (labels_in ps) (simple_term t) v

abbrev pub piped_scheme : Label → Term → Labels → Term → plan.Plan → Scheme
piped_scheme x i ls t p = record {
  vars = p.variables.count;
  type = fun ls (by_pipe i) t;
  optional = labels_in (params_of p.optional.now);
  pipe_label = Some x;
  labels = texts_of p.labels.now;
  kinds = bounds_of p.variables.bound;
}

abbrev pub over_scheme : plan.Plan → List Cell → List Cell → Scheme
over_scheme p asked made =
    piped_scheme (codes "tables") (stream (fields_in asked) (row_variable 0)) (labels_in (params_of p.required.now))
    (stream (fields_in (made ++ asked)) (row_variable 0)) p

abbrev pub closed_scheme : plan.Plan → List Cell → List Cell → Option simples.Simple → Scheme
closed_scheme p asked made other =
    piped_scheme (codes "tables") (stream (fields_in asked) (row_variable 0)) (labels_in (params_of p.required.now))
    (stream (fields_in made) (default (cell_field other))) p

abbrev pub place_of : Given → ats.At → Option Label
place_of w (at.Label x) = Some x.now
place_of w (at.Given x) = text_at w x.now None
place_of w (at.Word x word) = text_at w x.now (Some word.now)

abbrev pub with_place : Option Label → Option simples.Simple → Option (List Cell) → Option (List Cell)
with_place (Some x) cell (Some cells) = Some ((x, cell) ∷ cells)
with_place _ cell _ = None

abbrev pub places_of : Given → List (ats.At × Option simples.Simple) → Option (List Cell)
places_of w [] = Some []
places_of w (e ∷ es) = with_place (place_of w e.0) e.1 (places_of w es)

abbrev pub with_all : List Cell → Option (List Cell) → Option (List Cell)
with_all before (Some cells) = Some (before ++ cells)
with_all before None = None

abbrev pub both_places : plan.Plan → Option (List Cell) → Option (List Cell) → Option Scheme
both_places p (Some asked) (Some made) = Some (over_scheme p asked made)
both_places p _ _ = None

abbrev pub transformed : Given → plan.Plan → List (ats.At × Option simples.Simple) → List (ats.At × Option simples.Simple) → Option Scheme
transformed w p asked made = both_places p (places_of w asked) (places_of w made)

abbrev pub stored_scheme : simples.Simple → Scheme
stored_scheme k =
    call_scheme (labels_in ((codes "bucket", simple.Text) ∷ []))
    (stream (fields_in ((codes "_measurement", Some simple.Text) ∷ (codes "_field", Some simple.Text) ∷ (codes "_time", Some simple.Time) ∷ (codes "_value", Some k) ∷ [])) (default (is text)))
    (record { count = 0; bound = bound.Free })
