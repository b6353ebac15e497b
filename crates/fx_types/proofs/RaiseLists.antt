-- Lists of labels and of fields that are raised one after another.
use Rattle.std.proofs.Common.{◌≡◌, refl, sym, ap, ◌∙◌, ℕ, suc, zero, ◌+◌, ◌≤◌, ◌<◌, ◌^◌, List, [], ◌∷◌, ◌++◌, map, take, length, get_or, Option, arith}
use Rattle.std.specs.Prelude.{option_map}
use Rattle.std.proofs.lemmas.List.{take_more}
use Rattle.fx_types.specs.declared.term.FieldTy.TheViews.{out-FunTy, out-RowTy, roll-FunTy, roll-RowTy, out-roll-FunTy, out-roll-RowTy}
use Rattle.fx_types.specs.declared.term.FunTy.{FunTy}
use Rattle.fx_types.specs.declared.term.LabelField.{LabelField}
use Rattle.fx_types.specs.declared.term.LabelTy.{LabelTy}
use Rattle.fx_types.specs.declared.term.Rest.{Rest}
use Rattle.fx_types.specs.declared.term.RowTy.{RowTy}
use Rattle.fx_types.specs.declared.term.Ty.{Ty}
use Rattle.fx_types.specs.Numbers.{numbers, numbers_labels, numbers_pipe, numbers_field, numbers_fields, numbers_tail}
use Rattle.fx_types.specs.Raised.{raised, raised_labels, raised_pipe, raised_field, raised_fields, raised_tail, raised_function, raised_row}
use Rattle.fx_types.specs.Shape.{term, field_term, rest_term, fun_term, row_term, entry_term, label_term, labels_of, fields_of, pipe_of}
use Rattle.fx_types.specs.Term.{Label, Term, fun, rec, Function, Row, Labels, no_labels, more_labels, Field, Fields, no_fields, more_fields}
use Rattle.fx_types.proofs.Lists.{take_all}
use Rattle.fx_types.proofs.ShapeLaws.{entry_is, labelled_is, row_is, function_is}

-- labels

abbrev labels_after : Labels → Label → Term → Labels
labels_after no_labels l t = more_labels l t no_labels
labels_after (more_labels x u ls) l t = more_labels x u (labels_after ls l t)

label_pushed : (xs : List LabelTy) (x : LabelTy) → labels_of (map label_term (xs ++ x ∷ [])) ≡ labels_after (labels_of (map label_term xs)) x.label (term x.ty)
label_pushed [] x = ap (λ o. more_labels o.label o.type no_labels) (labelled_is x)
label_pushed (y ∷ ys) x = ap (more_labels (label_term y).label (label_term y).type) (label_pushed ys x)

label_after_raised : (k : ℕ) (ls : Labels) (l : Label) (t : Term) → labels_after (raised_labels k ls) l (raised k t) ≡ raised_labels k (labels_after ls l t)
label_after_raised k no_labels l t = refl
label_after_raised k (more_labels x u ls) l t = ap (more_labels x (raised k u)) (label_after_raised k ls l t)

pub label_step : (k : ℕ) (xs more es : List LabelTy) (i : ℕ) (x e : LabelTy) → more ≡ xs ++ x ∷ [] → x.label ≡ e.label → term x.ty ≡ raised k (term e.ty)
    → i < length es → e ≡ get_or es i e → labels_of (map label_term xs) ≡ raised_labels k (labels_of (map label_term (take i es)))
    → labels_of (map label_term more) ≡ raised_labels k (labels_of (map label_term (take (i + 1) es)))
label_step k xs more es i x e pushed label type lt at h =
    let next : take (i + 1) es ≡ take i es ++ e ∷ [] = take_more es i e lt ∙ ap (λ d. take i es ++ d ∷ []) (sym at) in
    ap (λ ys. labels_of (map label_term ys)) pushed ∙ label_pushed xs x ∙ (λ j. labels_after (h j) (label j) (type j))
    ∙ label_after_raised k (labels_of (map label_term (take i es))) e.label (term e.ty)
    ∙ ap (raised_labels k) (sym (label_pushed (take i es) e)) ∙ ap (λ ys. raised_labels k (labels_of (map label_term ys))) (sym next)

pub label_numbers : (es : List LabelTy) (i : ℕ) (e : LabelTy) → i < length es → e ≡ get_or es i e → numbers (term e.ty) ≤ numbers_labels (labels_of (map label_term es))
label_numbers [] i e lt at = absurd (omega arith)
label_numbers (x ∷ xs) zero e lt at =
    let same : numbers (term e.ty) ≡ numbers (label_term x).type = ap (λ d. numbers (term d.ty)) at ∙ sym (ap (λ o. numbers o.type) (labelled_is x)) in
    omega arith
label_numbers (x ∷ xs) (suc i) e lt at = let le : numbers (term e.ty) ≤ numbers_labels (labels_of (map label_term xs)) = label_numbers xs i e (omega arith) at in omega arith

-- fields

abbrev fields_after : Fields → Label → Field → Fields
fields_after no_fields l f = more_fields l f no_fields
fields_after (more_fields x g fs) l f = more_fields x g (fields_after fs l f)

field_pushed : (xs : List LabelField) (x : LabelField) → fields_of (map entry_term (xs ++ x ∷ [])) ≡ fields_after (fields_of (map entry_term xs)) x.label (field_term x.field)
field_pushed [] x = ap (λ o. more_fields o.label o.field no_fields) (entry_is x)
field_pushed (y ∷ ys) x = ap (more_fields (entry_term y).label (entry_term y).field) (field_pushed ys x)

field_after_raised : (k : ℕ) (fs : Fields) (l : Label) (f : Field) → fields_after (raised_fields k fs) l (raised_field k f) ≡ raised_fields k (fields_after fs l f)
field_after_raised k no_fields l f = refl
field_after_raised k (more_fields x g fs) l f = ap (more_fields x (raised_field k g)) (field_after_raised k fs l f)

pub field_step : (k : ℕ) (xs more es : List LabelField) (i : ℕ) (x e : LabelField) → more ≡ xs ++ x ∷ [] → x.label ≡ e.label → field_term x.field ≡ raised_field k (field_term e.field)
    → i < length es → e ≡ get_or es i e → fields_of (map entry_term xs) ≡ raised_fields k (fields_of (map entry_term (take i es)))
    → fields_of (map entry_term more) ≡ raised_fields k (fields_of (map entry_term (take (i + 1) es)))
field_step k xs more es i x e pushed label field lt at h =
    let next : take (i + 1) es ≡ take i es ++ e ∷ [] = take_more es i e lt ∙ ap (λ d. take i es ++ d ∷ []) (sym at) in
    ap (λ ys. fields_of (map entry_term ys)) pushed ∙ field_pushed xs x ∙ (λ j. fields_after (h j) (label j) (field j))
    ∙ field_after_raised k (fields_of (map entry_term (take i es))) e.label (field_term e.field)
    ∙ ap (raised_fields k) (sym (field_pushed (take i es) e)) ∙ ap (λ ys. raised_fields k (fields_of (map entry_term ys))) (sym next)

pub field_numbers : (es : List LabelField) (i : ℕ) (e : LabelField) → i < length es → e ≡ get_or es i e → numbers_field (field_term e.field) ≤ numbers_fields (fields_of (map entry_term es))
field_numbers [] i e lt at = absurd (omega arith)
field_numbers (x ∷ xs) zero e lt at =
    let same : numbers_field (field_term e.field) ≡ numbers_field (entry_term x).field = ap (λ d. numbers_field (field_term d.field)) at ∙ sym (ap (λ o. numbers_field o.field) (entry_is x)) in
    omega arith
field_numbers (x ∷ xs) (suc i) e lt at = let le : numbers_field (field_term e.field) ≤ numbers_fields (fields_of (map entry_term xs)) = field_numbers xs i e (omega arith) at in omega arith

-- at the end of a loop

pub all_labels : (k : ℕ) (xs es ls : List LabelTy) (i : ℕ) → es ≡ ls → length es ≤ i → labels_of (map label_term xs) ≡ raised_labels k (labels_of (map label_term (take i es)))
    → labels_of (map label_term xs) ≡ raised_labels k (labels_of (map label_term ls))
all_labels k xs es ls i same le h = h ∙ ap (λ d. raised_labels k (labels_of (map label_term d))) (take_all es i le ∙ same)

pub all_fields : (k : ℕ) (xs es fs : List LabelField) (i : ℕ) → es ≡ fs → length es ≤ i → fields_of (map entry_term xs) ≡ raised_fields k (fields_of (map entry_term (take i es)))
    → fields_of (map entry_term xs) ≡ raised_fields k (fields_of (map entry_term fs))
all_fields k xs es fs i same le h = h ∙ ap (λ d. raised_fields k (fields_of (map entry_term d))) (take_all es i le ∙ same)

-- functions and rows, put together from raised parts

pub fun_raised : (k : ℕ) (f : FunTy) (required : List LabelTy) (pipe : Option Ty) (result : Ty)
    → (numbers_labels (labels_of (map label_term (out-FunTy f).required)) + k ≤ 2 ^ 32 → labels_of (map label_term required) ≡ raised_labels k (labels_of (map label_term (out-FunTy f).required)))
    → (numbers_pipe (pipe_of (option_map term (out-FunTy f).pipe)) + k ≤ 2 ^ 32 → pipe_of (option_map term pipe) ≡ raised_pipe k (pipe_of (option_map term (out-FunTy f).pipe)))
    → (numbers (term (out-FunTy f).result) + k ≤ 2 ^ 32 → term result ≡ raised k (term (out-FunTy f).result))
    → numbers (fun (fun_term f).required (fun_term f).pipe (fun_term f).result) + k ≤ 2 ^ 32
    → fun_term (roll-FunTy (record { required = required; pipe = pipe; result = result })) ≡ raised_function k (fun_term f)
fun_raised k f required pipe result one two three room =
    let whole : numbers (fun (fun_term f).required (fun_term f).pipe (fun_term f).result)
    ≡ numbers (fun (labels_of (map label_term (out-FunTy f).required)) (pipe_of (option_map term (out-FunTy f).pipe)) (term (out-FunTy f).result)) =
    ap (λ g. numbers (fun g.required g.pipe g.result)) (function_is f) in
    function_is (roll-FunTy (record { required = required; pipe = pipe; result = result }))
    ∙ ap {B = Function} (λ o. record { required = labels_of (map label_term o.required); pipe = pipe_of (option_map term o.pipe); result = term o.result })
    (out-roll-FunTy (record { required = required; pipe = pipe; result = result }))
    ∙ (λ j. record { required = one (omega arith) j; pipe = two (omega arith) j; result = three (omega arith) j }) ∙ sym (ap (raised_function k) (function_is f))

pub row_raised : (k : ℕ) (r : RowTy) (fields : List LabelField) (rest : Rest)
    → (numbers_fields (fields_of (map entry_term (out-RowTy r).fields)) + k ≤ 2 ^ 32 → fields_of (map entry_term fields) ≡ raised_fields k (fields_of (map entry_term (out-RowTy r).fields)))
    → (numbers_tail (rest_term (out-RowTy r).rest) + k ≤ 2 ^ 32 → rest_term rest ≡ raised_tail k (rest_term (out-RowTy r).rest))
    → numbers (rec (row_term r).fields (row_term r).rest) + k ≤ 2 ^ 32 → row_term (roll-RowTy (record { fields = fields; rest = rest })) ≡ raised_row k (row_term r)
row_raised k r fields rest one two room =
    let whole : numbers (rec (row_term r).fields (row_term r).rest) ≡ numbers (rec (fields_of (map entry_term (out-RowTy r).fields)) (rest_term (out-RowTy r).rest)) =
    ap (λ o. numbers (rec o.fields o.rest)) (row_is r) in
    row_is (roll-RowTy (record { fields = fields; rest = rest }))
    ∙ ap {B = Row} (λ o. record { fields = fields_of (map entry_term o.fields); rest = rest_term o.rest }) (out-roll-RowTy (record { fields = fields; rest = rest }))
    ∙ (λ j. record { fields = one (omega arith) j; rest = two (omega arith) j }) ∙ sym (ap (raised_row k) (row_is r))
