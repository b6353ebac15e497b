-- The plain data of a term, and of each of its parts.
use Rattle.std.specs.Prelude.{List, [], ◌∷◌, Option, None, Some}
use Rattle.fx_types.specs.declared.term.FieldTy.{FieldTy, fold-FieldTy}
use Rattle.fx_types.specs.declared.term.FunTy.{FunTy, fold-FunTy}
use Rattle.fx_types.specs.declared.term.LabelField.{LabelField, fold-LabelField}
use Rattle.fx_types.specs.declared.term.LabelTy.{LabelTy, fold-LabelTy}
use Rattle.fx_types.specs.declared.term.Rest.{Rest, fold-Rest}
use Rattle.fx_types.specs.declared.term.RowTy.{RowTy, fold-RowTy}
use Rattle.fx_types.specs.declared.term.Ty.{Ty, fold-Ty}
use Rattle.fx_types.specs.declared.term.FieldTy.TheOpen.{FieldTy-F, Rest-F, Ty-F, FunTy-F, LabelField-F, LabelTy-F, RowTy-F}
use Rattle.fx_types.specs.Term.{Label, Term, bool, int, text, time, span, pattern, done, type_variable, array, fun, rec, stream, Labels, no_labels, more_labels, Pipe, no_pipe, by_pipe, Field, absent, is, field_variable, Fields, no_fields, more_fields, Tail, default, row_variable, Function, Row}

-- an entry of a row
pub record OfField : Type 0 where
  pub label : Label
  pub field : Field

-- an entry of a function's labels
pub record OfLabel : Type 0 where
  pub label : Label
  pub type : Term

abbrev pub labels_of : List OfLabel → Labels
labels_of [] = no_labels
labels_of (l ∷ ls) = more_labels l.label l.type (labels_of ls)

abbrev pub fields_of : List OfField → Fields
fields_of [] = no_fields
fields_of (f ∷ fs) = more_fields f.label f.field (fields_of fs)

abbrev pub pipe_of : Option Term → Pipe
pipe_of None = no_pipe
pipe_of (Some t) = by_pipe t

abbrev pub field_shape : FieldTy-F Field Tail Term Function OfField OfLabel Row → Field
field_shape FieldTy-F.Absent = absent
field_shape (FieldTy-F.Is t) = is t
field_shape (FieldTy-F.«FieldTy::Var» n) = field_variable n

abbrev pub rest_shape : Rest-F Field Tail Term Function OfField OfLabel Row → Tail
rest_shape (Rest-F.Default f) = default f
rest_shape (Rest-F.«Rest::Var» n) = row_variable n

abbrev pub ty_shape : Ty-F Field Tail Term Function OfField OfLabel Row → Term
ty_shape Ty-F.Bool = bool
ty_shape Ty-F.Int = int
ty_shape Ty-F.Text = text
ty_shape Ty-F.Time = time
ty_shape Ty-F.Span = span
ty_shape Ty-F.Pattern = pattern
ty_shape Ty-F.Done = done
ty_shape (Ty-F.«Ty::Var» n) = type_variable n
ty_shape (Ty-F.Array t) = array t
ty_shape (Ty-F.Fun f) = fun f.required f.pipe f.result
ty_shape (Ty-F.Rec r) = rec r.fields r.rest
ty_shape (Ty-F.Stream r) = stream r.fields r.rest

abbrev pub fun_shape : FunTy-F Field Tail Term Function OfField OfLabel Row → Function
fun_shape f = record { required = labels_of f.required; pipe = pipe_of f.pipe; result = f.result }

abbrev pub entry_shape : LabelField-F Field Tail Term Function OfField OfLabel Row → OfField
entry_shape e = record { label = e.label; field = e.field }

abbrev pub label_shape : LabelTy-F Field Tail Term Function OfField OfLabel Row → OfLabel
label_shape e = record { label = e.label; type = e.ty }

abbrev pub row_shape : RowTy-F Field Tail Term Function OfField OfLabel Row → Row
row_shape r = record { fields = fields_of r.fields; rest = r.rest }

unfoldable pub term : Ty → Term
term = fold-Ty Field Tail Term Function OfField OfLabel Row field_shape rest_shape ty_shape fun_shape entry_shape label_shape row_shape

unfoldable pub field_term : FieldTy → Field
field_term = fold-FieldTy Field Tail Term Function OfField OfLabel Row field_shape rest_shape ty_shape fun_shape entry_shape label_shape row_shape

unfoldable pub rest_term : Rest → Tail
rest_term = fold-Rest Field Tail Term Function OfField OfLabel Row field_shape rest_shape ty_shape fun_shape entry_shape label_shape row_shape

unfoldable pub fun_term : FunTy → Function
fun_term = fold-FunTy Field Tail Term Function OfField OfLabel Row field_shape rest_shape ty_shape fun_shape entry_shape label_shape row_shape

unfoldable pub entry_term : LabelField → OfField
entry_term = fold-LabelField Field Tail Term Function OfField OfLabel Row field_shape rest_shape ty_shape fun_shape entry_shape label_shape row_shape

unfoldable pub label_term : LabelTy → OfLabel
label_term = fold-LabelTy Field Tail Term Function OfField OfLabel Row field_shape rest_shape ty_shape fun_shape entry_shape label_shape row_shape

unfoldable pub row_term : RowTy → Row
row_term = fold-RowTy Field Tail Term Function OfField OfLabel Row field_shape rest_shape ty_shape fun_shape entry_shape label_shape row_shape
