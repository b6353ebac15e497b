-- Terms that are the same, part by part.
use Rattle.std.proofs.Common.{◌≡◌, sym, ap, ◌∙◌, ℕ, ◌+◌, ◌≤◌, ◌<◌, List, [], ◌∷◌, ◌++◌, map, take, length, get_or, option_map}
use Rattle.std.proofs.lemmas.List.{take_more, map-append}
use Rattle.fx_types.proofs.Lists.{take_all}
use Rattle.fx_types.proofs.ShapeLaws.{entry_is, labelled_is, row_is, function_is}
use Rattle.fx_types.specs.declared.term.FieldTy.TheViews.{out-FunTy, out-RowTy}
use Rattle.fx_types.specs.declared.term.FunTy.{FunTy}
use Rattle.fx_types.specs.declared.term.LabelField.{LabelField}
use Rattle.fx_types.specs.declared.term.LabelTy.{LabelTy}
use Rattle.fx_types.specs.declared.term.RowTy.{RowTy}
use Rattle.fx_types.specs.Shape.{term, field_term, rest_term, fun_term, entry_term, label_term, row_term, labels_of, fields_of, pipe_of}

pub same_step : {A B : Type 0} (f : A → B) (xs ys : List A) (i : ℕ) (x y : A) → i < length xs → i < length ys → x ≡ get_or xs i x → y ≡ get_or ys i y → f x ≡ f y
    → map f (take i xs) ≡ map f (take i ys) → map f (take (i + 1) xs) ≡ map f (take (i + 1) ys)
same_step f xs ys i x y lt less at there e h =
    ap (map f) (take_more xs i x lt ∙ ap (λ d. take i xs ++ d ∷ []) (sym at)) ∙ map-append f (take i xs) (x ∷ []) ∙ (λ j. h j ++ e j ∷ [])
    ∙ sym (ap (map f) (take_more ys i y less ∙ ap (λ d. take i ys ++ d ∷ []) (sym there)) ∙ map-append f (take i ys) (y ∷ []))

pub same_all : {A B : Type 0} (f : A → B) (xs ys us ws : List A) (i : ℕ) → xs ≡ us → ys ≡ ws → length xs ≤ i → length ys ≤ i → map f (take i xs) ≡ map f (take i ys) → map f us ≡ map f ws
same_all f xs ys us ws i same also le less h = sym (ap (map f) (take_all xs i le ∙ same)) ∙ h ∙ ap (map f) (take_all ys i less ∙ also)

pub labels_same : (a b : LabelTy) → a.label ≡ b.label → term a.ty ≡ term b.ty → label_term a ≡ label_term b
labels_same a b label type = labelled_is a ∙ (λ j. record { label = label j; type = type j }) ∙ sym (labelled_is b)

pub entries_same : (a b : LabelField) → a.label ≡ b.label → field_term a.field ≡ field_term b.field → entry_term a ≡ entry_term b
entries_same a b label field = entry_is a ∙ (λ j. record { label = label j; field = field j }) ∙ sym (entry_is b)

pub functions_same : (a b : FunTy) → map label_term (out-FunTy a).required ≡ map label_term (out-FunTy b).required → option_map term (out-FunTy a).pipe ≡ option_map term (out-FunTy b).pipe
    → term (out-FunTy a).result ≡ term (out-FunTy b).result → fun_term a ≡ fun_term b
functions_same a b labels pipe res = function_is a ∙ (λ j. record { required = labels_of (labels j); pipe = pipe_of (pipe j); result = res j }) ∙ sym (function_is b)

pub rows_same : (a b : RowTy) → map entry_term (out-RowTy a).fields ≡ map entry_term (out-RowTy b).fields → rest_term (out-RowTy a).rest ≡ rest_term (out-RowTy b).rest → row_term a ≡ row_term b
rows_same a b fields rest = row_is a ∙ (λ j. record { fields = fields_of (fields j); rest = rest j }) ∙ sym (row_is b)
