-- The equations of plain terms: of what a term and each of its parts is seen as.
use Rattle.std.proofs.Common.{◌≡◌, refl, sym, ap, ◌∙◌, map, ℕ, [], Option, None, Some}
use Rattle.std.specs.Prelude.{option_map}
use Rattle.fx_types.specs.declared.term.FieldTy.{FieldTy}
use Rattle.fx_types.specs.declared.term.FunTy.{FunTy}
use Rattle.fx_types.specs.declared.term.LabelField.{LabelField}
use Rattle.fx_types.specs.declared.term.LabelTy.{LabelTy}
use Rattle.fx_types.specs.declared.term.Rest.{Rest}
use Rattle.fx_types.specs.declared.term.RowTy.{RowTy}
use Rattle.fx_types.specs.declared.term.Ty.{Ty}
use Rattle.fx_types.specs.declared.term.FieldTy.TheFolds.{map-FunTy, fold_out-LabelField, fold_out-LabelTy, fold_out-FunTy, fold_out-RowTy, fold-roll-FieldTy, fold-roll-Rest, fold-roll-Ty}
use Rattle.fx_types.specs.declared.term.FieldTy.TheViews.{out-FunTy, out-RowTy}
use Rattle.fx_types.specs.declared.term.FieldTy.TheOpen.{FieldTy-F, Rest-F, Ty-F}
use Rattle.fx_types.specs.declared.term.Ty.TheVariants as ty
use Rattle.fx_types.specs.declared.term.FieldTy.TheVariants as fields
use Rattle.fx_types.specs.declared.term.Rest.TheVariants as rests
use Rattle.fx_types.specs.Term.{Term, bool, int, text, time, span, pattern, done, type_variable, array, fun, rec, stream, Field, absent, is, field_variable, Tail, default, row_variable, Function, Row}
use Rattle.fx_types.specs.Shape.{OfField, OfLabel, field_shape, rest_shape, ty_shape, fun_shape, entry_shape, label_shape, row_shape, term, field_term, rest_term, fun_term, entry_term, label_term, row_term, labels_of, fields_of, pipe_of}

pub term_bool : term ty.Bool ≡ bool
unfolding term
term_bool = ap term (sym ty.rolls-Bool) ∙ fold-roll-Ty Field Tail Term Function OfField OfLabel Row field_shape rest_shape ty_shape fun_shape entry_shape label_shape row_shape Ty-F.Bool

pub term_int : term ty.Int ≡ int
unfolding term
term_int = ap term (sym ty.rolls-Int) ∙ fold-roll-Ty Field Tail Term Function OfField OfLabel Row field_shape rest_shape ty_shape fun_shape entry_shape label_shape row_shape Ty-F.Int

pub term_text : term ty.Text ≡ text
unfolding term
term_text = ap term (sym ty.rolls-Text) ∙ fold-roll-Ty Field Tail Term Function OfField OfLabel Row field_shape rest_shape ty_shape fun_shape entry_shape label_shape row_shape Ty-F.Text

pub term_time : term ty.Time ≡ time
unfolding term
term_time = ap term (sym ty.rolls-Time) ∙ fold-roll-Ty Field Tail Term Function OfField OfLabel Row field_shape rest_shape ty_shape fun_shape entry_shape label_shape row_shape Ty-F.Time

pub term_span : term ty.Span ≡ span
unfolding term
term_span = ap term (sym ty.rolls-Span) ∙ fold-roll-Ty Field Tail Term Function OfField OfLabel Row field_shape rest_shape ty_shape fun_shape entry_shape label_shape row_shape Ty-F.Span

pub term_pattern : term ty.Pattern ≡ pattern
unfolding term
term_pattern = ap term (sym ty.rolls-Pattern) ∙ fold-roll-Ty Field Tail Term Function OfField OfLabel Row field_shape rest_shape ty_shape fun_shape entry_shape label_shape row_shape Ty-F.Pattern

pub term_done : term ty.Done ≡ done
unfolding term
term_done = ap term (sym ty.rolls-Done) ∙ fold-roll-Ty Field Tail Term Function OfField OfLabel Row field_shape rest_shape ty_shape fun_shape entry_shape label_shape row_shape Ty-F.Done

pub term_variable : (n : ℕ) → term (ty.Var n) ≡ type_variable n
unfolding term
term_variable n = ap term (sym (ty.rolls-Var n)) ∙ fold-roll-Ty Field Tail Term Function OfField OfLabel Row field_shape rest_shape ty_shape fun_shape entry_shape label_shape row_shape (Ty-F.«Ty::Var» n)

pub term_array : (t : Ty) → term (ty.Array t) ≡ array (term t)
unfolding term
term_array t = ap term (sym (ty.rolls-Array t)) ∙ fold-roll-Ty Field Tail Term Function OfField OfLabel Row field_shape rest_shape ty_shape fun_shape entry_shape label_shape row_shape (Ty-F.Array t)

pub term_fun : (f : FunTy) → term (ty.Fun f) ≡ fun (fun_term f).required (fun_term f).pipe (fun_term f).result
unfolding term fun_term
term_fun f = ap term (sym (ty.rolls-Fun f)) ∙ fold-roll-Ty Field Tail Term Function OfField OfLabel Row field_shape rest_shape ty_shape fun_shape entry_shape label_shape row_shape (Ty-F.Fun f)

pub term_rec : (r : RowTy) → term (ty.Rec r) ≡ rec (row_term r).fields (row_term r).rest
unfolding term row_term
term_rec r = ap term (sym (ty.rolls-Rec r)) ∙ fold-roll-Ty Field Tail Term Function OfField OfLabel Row field_shape rest_shape ty_shape fun_shape entry_shape label_shape row_shape (Ty-F.Rec r)

pub term_stream : (r : RowTy) → term (ty.Stream r) ≡ stream (row_term r).fields (row_term r).rest
unfolding term row_term
term_stream r = ap term (sym (ty.rolls-Stream r)) ∙ fold-roll-Ty Field Tail Term Function OfField OfLabel Row field_shape rest_shape ty_shape fun_shape entry_shape label_shape row_shape (Ty-F.Stream r)

pub field_absent : field_term fields.Absent ≡ absent
unfolding field_term
field_absent = ap field_term (sym fields.rolls-Absent) ∙ fold-roll-FieldTy Field Tail Term Function OfField OfLabel Row field_shape rest_shape ty_shape fun_shape entry_shape label_shape row_shape FieldTy-F.Absent

pub field_is : (t : Ty) → field_term (fields.Is t) ≡ is (term t)
unfolding field_term term
field_is t = ap field_term (sym (fields.rolls-Is t)) ∙ fold-roll-FieldTy Field Tail Term Function OfField OfLabel Row field_shape rest_shape ty_shape fun_shape entry_shape label_shape row_shape (FieldTy-F.Is t)

pub field_var : (n : ℕ) → field_term (fields.Var n) ≡ field_variable n
unfolding field_term
field_var n = ap field_term (sym (fields.rolls-Var n)) ∙ fold-roll-FieldTy Field Tail Term Function OfField OfLabel Row field_shape rest_shape ty_shape fun_shape entry_shape label_shape row_shape (FieldTy-F.«FieldTy::Var» n)

pub tail_default : (f : FieldTy) → rest_term (rests.Default f) ≡ default (field_term f)
unfolding rest_term field_term
tail_default f = ap rest_term (sym (rests.rolls-Default f)) ∙ fold-roll-Rest Field Tail Term Function OfField OfLabel Row field_shape rest_shape ty_shape fun_shape entry_shape label_shape row_shape (Rest-F.Default f)

pub tail_var : (n : ℕ) → rest_term (rests.Var n) ≡ row_variable n
unfolding rest_term
tail_var n = ap rest_term (sym (rests.rolls-Var n)) ∙ fold-roll-Rest Field Tail Term Function OfField OfLabel Row field_shape rest_shape ty_shape fun_shape entry_shape label_shape row_shape (Rest-F.«Rest::Var» n)

pub entry_is : (e : LabelField) → entry_term e ≡ record { label = e.label; field = field_term e.field }
unfolding entry_term field_term
entry_is e = fold_out-LabelField Field Tail Term Function OfField OfLabel Row field_shape rest_shape ty_shape fun_shape entry_shape label_shape row_shape e

pub labelled_is : (e : LabelTy) → label_term e ≡ record { label = e.label; type = term e.ty }
unfolding label_term term
labelled_is e = fold_out-LabelTy Field Tail Term Function OfField OfLabel Row field_shape rest_shape ty_shape fun_shape entry_shape label_shape row_shape e

pub row_is : (r : RowTy) → row_term r ≡ record { fields = fields_of (map entry_term (out-RowTy r).fields); rest = rest_term (out-RowTy r).rest }
unfolding row_term entry_term rest_term
row_is r = fold_out-RowTy Field Tail Term Function OfField OfLabel Row field_shape rest_shape ty_shape fun_shape entry_shape label_shape row_shape r

-- the pipe of a function, part by part
mapped : (p : Option Ty) → (map-FunTy FieldTy Rest Ty FunTy LabelField LabelTy RowTy Field Tail Term Function OfField OfLabel Row field_term rest_term term fun_term entry_term label_term row_term (record { required = []; pipe = p; result = ty.Bool })).pipe ≡ option_map term p
mapped None = refl
mapped (Some t) = refl

pub function_is : (f : FunTy) → fun_term f ≡ record { required = labels_of (map label_term (out-FunTy f).required); pipe = pipe_of (option_map term (out-FunTy f).pipe); result = term (out-FunTy f).result }
unfolding field_term rest_term term fun_term entry_term label_term row_term
function_is f =
    fold_out-FunTy Field Tail Term Function OfField OfLabel Row field_shape rest_shape ty_shape fun_shape entry_shape label_shape row_shape f
    ∙ ap (λ p. record { required = labels_of (map label_term (out-FunTy f).required); pipe = pipe_of p; result = term (out-FunTy f).result }) (mapped (out-FunTy f).pipe)
