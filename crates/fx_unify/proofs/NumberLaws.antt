-- The numbers of a term: the greatest of those of its parts, and what is under solutions that agree below it.
use Rattle.std.proofs.Common.{◌≡◌, refl, sym, ap, ◌∙◌, ℕ, ◌+◌, ◌≤◌, ◌<◌, List, ◌∷◌, map, drop, length, get_or, max, arith}
use Rattle.std.proofs.lemmas.List.{drop_more}
use Rattle.std.proofs.Math.ListN.{drop_of_length-le}
use Rattle.fx_types.specs.declared.term.LabelField.{LabelField}
use Rattle.fx_types.specs.declared.term.LabelTy.{LabelTy}
use Rattle.fx_types.proofs.ShapeLaws.{entry_is, labelled_is}
use Rattle.fx_types.specs.Shape.{term, field_term, entry_term, label_term, labels_of, fields_of}
use Rattle.fx_types.specs.Numbers.{numbers, numbers_labels, numbers_field, numbers_fields}

pub start : (n : ℕ) → max 0 n ≡ n
start n = omega arith

rest_of_max : (g x r first more whole : ℕ) → x ≡ first → r ≡ max g x → max g (max first more) ≡ whole → max r more ≡ whole
rest_of_max g x r first more whole e f h = omega arith

all_seen : (g left whole : ℕ) → left ≡ 0 → max g left ≡ whole → g ≡ whole
all_seen g left whole e h = omega arith

pub labels_step : (es : List LabelTy) (i : ℕ) (e : LabelTy) (g x r whole : ℕ) → i < length es → e ≡ get_or es i e → x ≡ numbers (term e.ty) → r ≡ max g x
    → max g (numbers_labels (labels_of (map label_term (drop i es)))) ≡ whole → max r (numbers_labels (labels_of (map label_term (drop (i + 1) es)))) ≡ whole
labels_step es i e g x r whole lt at is most h =
    let split : drop i es ≡ e ∷ drop (i + 1) es = drop_more es i e lt ∙ ap (λ d. d ∷ drop (i + 1) es) (sym at) in
    let same : numbers_labels (labels_of (map label_term (drop i es))) ≡ max (numbers (term e.ty)) (numbers_labels (labels_of (map label_term (drop (i + 1) es)))) = rw (split, labelled_is e) refl in
    rest_of_max g x r (numbers (term e.ty)) (numbers_labels (labels_of (map label_term (drop (i + 1) es)))) whole is most (ap (max g) (sym same) ∙ h)

pub labels_end : (es : List LabelTy) (i g whole : ℕ) → length es ≤ i → max g (numbers_labels (labels_of (map label_term (drop i es)))) ≡ whole → g ≡ whole
labels_end es i g whole le h = all_seen g _ whole (ap (λ ds. numbers_labels (labels_of (map label_term ds))) (drop_of_length-le es le)) h

pub fields_step : (es : List LabelField) (i : ℕ) (e : LabelField) (g x r whole : ℕ) → i < length es → e ≡ get_or es i e → x ≡ numbers_field (field_term e.field) → r ≡ max g x
    → max g (numbers_fields (fields_of (map entry_term (drop i es)))) ≡ whole → max r (numbers_fields (fields_of (map entry_term (drop (i + 1) es)))) ≡ whole
fields_step es i e g x r whole lt at is most h =
    let split : drop i es ≡ e ∷ drop (i + 1) es = drop_more es i e lt ∙ ap (λ d. d ∷ drop (i + 1) es) (sym at) in
    let same : numbers_fields (fields_of (map entry_term (drop i es))) ≡ max (numbers_field (field_term e.field)) (numbers_fields (fields_of (map entry_term (drop (i + 1) es)))) = rw (split, entry_is e) refl in
    rest_of_max g x r (numbers_field (field_term e.field)) (numbers_fields (fields_of (map entry_term (drop (i + 1) es)))) whole is most (ap (max g) (sym same) ∙ h)

pub fields_end : (es : List LabelField) (i g whole : ℕ) → length es ≤ i → max g (numbers_fields (fields_of (map entry_term (drop i es)))) ≡ whole → g ≡ whole
fields_end es i g whole le h = all_seen g _ whole (ap (λ ds. numbers_fields (fields_of (map entry_term ds))) (drop_of_length-le es le)) h
