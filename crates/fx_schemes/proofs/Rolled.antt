-- The plain data of rows, functions and labels that were just made.
use Rattle.std.proofs.Common.{◌≡◌, ◌∙◌, ap, map, List, [], ◌∷◌, Option}
use Rattle.std.specs.Prelude.{option_map}
use Rattle.fx_types.specs.declared.term.FunTy.{FunTy}
use Rattle.fx_types.specs.declared.term.LabelField.{LabelField}
use Rattle.fx_types.specs.declared.term.LabelTy.{LabelTy}
use Rattle.fx_types.specs.declared.term.Rest.{Rest}
use Rattle.fx_types.specs.declared.term.RowTy.{RowTy}
use Rattle.fx_types.specs.declared.term.Ty.{Ty}
use Rattle.fx_types.specs.declared.term.Ty.TheVariants as ty
use Rattle.fx_types.specs.declared.term.FieldTy.{FieldTy}
use Rattle.fx_types.specs.declared.term.FieldTy.TheViews.{roll-RowTy, out-roll-RowTy, roll-FunTy, out-roll-FunTy, roll-LabelTy, out-roll-LabelTy, roll-LabelField, out-roll-LabelField}
use Rattle.fx_types.specs.Term.{Label, Term, Field, Tail, stream, rec, fun, no_pipe}
use Rattle.fx_types.specs.Shape.{OfField, OfLabel, term, field_term, rest_term, entry_term, label_term, row_term, fun_term, fields_of, labels_of, pipe_of}
use Rattle.fx_schemes.specs.Plan.{labelled}
use Rattle.fx_types.proofs.ShapeLaws.{term_stream, term_rec, term_fun, row_is, function_is, labelled_is, entry_is}

row_rolled : (fs : List LabelField) (r : Rest) (row : RowTy) → row ≡ roll-RowTy (record { fields = fs; rest = r })
    → row_term row ≡ record { fields = fields_of (map entry_term fs); rest = rest_term r }
row_rolled fs r row e =
    ap row_term e
    ∙ row_is (roll-RowTy (record { fields = fs; rest = r }))
    ∙ ap (λ o. record { fields = fields_of (map entry_term o.fields); rest = rest_term o.rest }) (out-roll-RowTy (record { fields = fs; rest = r }))

pub stream_rolled : (fs : List LabelField) (r : Rest) (row : RowTy) → row ≡ roll-RowTy (record { fields = fs; rest = r })
    → term (ty.Stream row) ≡ stream (fields_of (map entry_term fs)) (rest_term r)
stream_rolled fs r row e = term_stream row ∙ ap (λ x. stream x.fields x.rest) (row_rolled fs r row e)

pub rec_rolled : (fs : List LabelField) (r : Rest) (row : RowTy) → row ≡ roll-RowTy (record { fields = fs; rest = r })
    → term (ty.Rec row) ≡ rec (fields_of (map entry_term fs)) (rest_term r)
rec_rolled fs r row e = term_rec row ∙ ap (λ x. rec x.fields x.rest) (row_rolled fs r row e)

pub fun_rolled : (ls : List LabelTy) (p : Option Ty) (t : Ty) (f : FunTy) → f ≡ roll-FunTy (record { required = ls; pipe = p; result = t })
    → term (ty.Fun f) ≡ fun (labels_of (map label_term ls)) (pipe_of (option_map term p)) (term t)
fun_rolled ls p t f e =
    term_fun f
    ∙ ap (λ x. fun x.required x.pipe x.result)
    (ap fun_term e
    ∙ function_is (roll-FunTy (record { required = ls; pipe = p; result = t }))
    ∙ ap (λ o. record { required = labels_of (map label_term o.required); pipe = pipe_of (option_map term o.pipe); result = term o.result })
    (out-roll-FunTy (record { required = ls; pipe = p; result = t })))

pub label_rolled : (x : Label) (t : Ty) → label_term (roll-LabelTy (record { label = x; ty = t })) ≡ labelled x (term t)
label_rolled x t =
    labelled_is (roll-LabelTy (record { label = x; ty = t }))
    ∙ ap (λ o. record { label = o.label; type = term o.ty }) (out-roll-LabelTy (record { label = x; ty = t }))

pub entry_rolled : (x : Label) (f : FieldTy) → entry_term (roll-LabelField (record { label = x; field = f })) ≡ record { label = x; field = field_term f }
entry_rolled x f =
    entry_is (roll-LabelField (record { label = x; field = f }))
    ∙ ap (λ o. record { label = o.label; field = field_term o.field }) (out-roll-LabelField (record { label = x; field = f }))

abbrev pub entry : Label → Field → OfField
entry x f = record { label = x; field = f }

pub same_stream : (a b : List OfField) (r t : Tail) → a ≡ b → r ≡ t → stream (fields_of a) r ≡ stream (fields_of b) t
same_stream a b r t e h = ap (λ x. stream (fields_of x) r) e ∙ ap (stream (fields_of b)) h

pub same_entry : (x y : Label) (f g : Field) → x ≡ y → f ≡ g → entry x f ≡ entry y g
same_entry x y f g e h = ap (λ z. entry z f) e ∙ ap (entry y) h

pub same_param : (x y : Label) (t u : Term) → x ≡ y → t ≡ u → labelled x t ≡ labelled y u
same_param x y t u e h = ap (λ z. labelled z t) e ∙ ap (labelled y) h

pub same_rec : (a b : List OfField) (r t : Tail) → a ≡ b → r ≡ t → rec (fields_of a) r ≡ rec (fields_of b) t
same_rec a b r t e h = ap (λ x. rec (fields_of x) r) e ∙ ap (rec (fields_of b)) h

pub same_two : (a b x y : OfLabel) (t u : Term) → a ≡ b → x ≡ y → t ≡ u
    → fun (labels_of (a ∷ x ∷ [])) no_pipe t ≡ fun (labels_of (b ∷ y ∷ [])) no_pipe u
same_two a b x y t u e h k =
    ap (λ z. fun (labels_of (z ∷ x ∷ [])) no_pipe t) e ∙ ap (λ z. fun (labels_of (b ∷ z ∷ [])) no_pipe t) h ∙ ap (fun (labels_of (b ∷ y ∷ [])) no_pipe) k
