-- Terms with what is bound put in, part by part.
use Rattle.std.proofs.Common.{◌≡◌, refl, sym, ap, subst, ◌∙◌, ℕ, ◌+◌, ◌≤◌, ◌<◌, List, [], ◌∷◌, ◌++◌, append_assoc, map, take, get_or, length, Option, option_map}
use Rattle.std.specs.Prelude.{if◌then◌else◌}
use Rattle.std.proofs.lemmas.List.{take_more}
use Rattle.fx_base.specs.Text.{same_text}
use Rattle.fx_types.proofs.ShapeLaws.{entry_is, labelled_is, term_array, term_fun, term_rec, term_stream, field_is, field_var, tail_default}
use Rattle.fx_types.specs.declared.term.FieldTy.{FieldTy}
use Rattle.fx_types.specs.declared.term.FunTy.{FunTy}
use Rattle.fx_types.specs.declared.term.LabelField.{LabelField}
use Rattle.fx_types.specs.declared.term.LabelTy.{LabelTy}
use Rattle.fx_types.specs.declared.term.Rest.{Rest}
use Rattle.fx_types.specs.declared.term.RowTy.{RowTy}
use Rattle.fx_types.specs.declared.term.Ty.{Ty}
use Rattle.fx_types.specs.declared.term.Ty.TheVariants as ty
use Rattle.fx_types.specs.declared.term.FieldTy.TheVariants as fields
use Rattle.fx_types.specs.declared.term.Rest.TheVariants as rests
use Rattle.fx_types.specs.declared.term.FieldTy.TheViews.{out-FunTy, roll-FunTy, out-roll-FunTy, out-RowTy, roll-RowTy, out-roll-RowTy}
use Rattle.fx_types.specs.Term.{Label, fun}
use Rattle.fx_types.specs.Ground.{GroundField, GroundRow, g_array, g_fun, g_rec, g_stream, g_is}
use Rattle.fx_types.specs.Instance.{Solution, ground, ground_labels, ground_pipe, ground_field, ground_fields, ground_tail}
use Rattle.fx_types.specs.Shape.{OfField, OfLabel, term, field_term, rest_term, fun_term, row_term, entry_term, label_term, labels_of, fields_of, pipe_of}
use Rattle.fx_unify.specs.Part.{p_is, value}
use Rattle.fx_unify.specs.Rows.{ground_row, SameLabels, SameFields}
use Rattle.fx_unify.proofs.HeadLaws.{ground_array, ground_fun, ground_rec, ground_stream, pipe_part, result_part, labels_part}
use Rattle.fx_types.proofs.Lists.{take_all}
use Rattle.fx_unify.proofs.RowLaws.{ground_row_is}
use Rattle.fx_unify.proofs.SolvingLaws.{type_is}

none_after : {A : Type 0} (xs : List A) → xs ++ [] ≡ xs
none_after [] = refl
none_after (x ∷ xs) = ap (λ ys. x ∷ ys) (none_after xs)

-- labels

pub start_labels : (s : Solution) (xs : List LabelTy) → xs ≡ [] → SameLabels s xs []
start_labels s xs e = subst (λ ys. SameLabels s ys []) (sym e) (λ zs l. refl)

pub start_fields : (s : Solution) (xs : List LabelField) → xs ≡ [] → SameFields s xs []
start_fields s xs e = subst (λ ys. SameFields s ys []) (sym e) (λ zs q l. refl)

abbrev label_at : Solution → Label → GroundField → OfLabel → GroundField
label_at s l r o = if same_text l o.label then g_is (ground s o.type) else r

label_same : (s : Solution) (l : Label) (r : GroundField) (x e : LabelTy) → x.label ≡ e.label → ground s (term x.ty) ≡ ground s (term e.ty) → label_at s l r (label_term x) ≡ label_at s l r (label_term e)
label_same s l r x e label type =
    ap (label_at s l r) (labelled_is x) ∙ (λ j. if same_text l (label j) then g_is (type j) else r) ∙ sym (ap (label_at s l r) (labelled_is e))

labels_replaced : (s : Solution) (ys zs : List LabelTy) (x e : LabelTy) (l : Label) → x.label ≡ e.label → ground s (term x.ty) ≡ ground s (term e.ty)
    → ground_labels s (labels_of (map label_term (ys ++ x ∷ zs))) l ≡ ground_labels s (labels_of (map label_term (ys ++ e ∷ zs))) l
labels_replaced s [] zs x e l label type = label_same s l (ground_labels s (labels_of (map label_term zs)) l) x e label type
labels_replaced s (y ∷ ys) zs x e l label type = ap (λ r. label_at s l r (label_term y)) (labels_replaced s ys zs x e l label type)

pub label_added : (s : Solution) (xs more es : List LabelTy) (i : ℕ) (x e : LabelTy) → more ≡ xs ++ x ∷ [] → x.label ≡ e.label → ground s (term x.ty) ≡ ground s (term e.ty)
    → i < length es → e ≡ get_or es i e → SameLabels s xs (take i es) → SameLabels s more (take (i + 1) es)
label_added s xs more es i x e pushed label type lt at h zs l =
    let next : take (i + 1) es ≡ take i es ++ e ∷ [] = take_more es i e lt ∙ ap (λ d. take i es ++ d ∷ []) (sym at) in
    ap (λ ys. ground_labels s (labels_of (map label_term (ys ++ zs))) l) pushed
    ∙ ap (λ ys. ground_labels s (labels_of (map label_term ys)) l) (append_assoc xs (x ∷ []) zs)
    ∙ h (x ∷ zs) l ∙ labels_replaced s (take i es) zs x e l label type
    ∙ sym (ap (λ ys. ground_labels s (labels_of (map label_term ys)) l) (append_assoc (take i es) (e ∷ []) zs))
    ∙ sym (ap (λ ys. ground_labels s (labels_of (map label_term (ys ++ zs))) l) next)

pub labels_all : (s : Solution) (xs es ls : List LabelTy) (i : ℕ) → es ≡ ls → length es ≤ i → SameLabels s xs (take i es) → SameLabels s xs ls
labels_all s xs es ls i same le h = subst (SameLabels s xs) (take_all es i le ∙ same) h

labels_whole : (s : Solution) (xs ys : List LabelTy) → SameLabels s xs ys → (l : Label) → ground_labels s (labels_of (map label_term xs)) l ≡ ground_labels s (labels_of (map label_term ys)) l
labels_whole s xs ys h l =
    ap (λ zs. ground_labels s (labels_of (map label_term zs)) l) (sym (none_after xs)) ∙ h [] l ∙ ap (λ zs. ground_labels s (labels_of (map label_term zs)) l) (none_after ys)

-- fields

abbrev field_at : Solution → Label → GroundField → OfField → GroundField
field_at s l r o = if same_text l o.label then ground_field s o.field else r

field_same : (s : Solution) (l : Label) (r : GroundField) (x e : LabelField) → x.label ≡ e.label → ground_field s (field_term x.field) ≡ ground_field s (field_term e.field)
    → field_at s l r (entry_term x) ≡ field_at s l r (entry_term e)
field_same s l r x e label type =
    ap (field_at s l r) (entry_is x) ∙ (λ j. if same_text l (label j) then type j else r) ∙ sym (ap (field_at s l r) (entry_is e))

fields_replaced : (s : Solution) (ys zs : List LabelField) (x e : LabelField) (q : GroundRow) (l : Label) → x.label ≡ e.label → ground_field s (field_term x.field) ≡ ground_field s (field_term e.field)
    → ground_fields s (fields_of (map entry_term (ys ++ x ∷ zs))) q l ≡ ground_fields s (fields_of (map entry_term (ys ++ e ∷ zs))) q l
fields_replaced s [] zs x e q l label type = field_same s l (ground_fields s (fields_of (map entry_term zs)) q l) x e label type
fields_replaced s (y ∷ ys) zs x e q l label type = ap (λ r. field_at s l r (entry_term y)) (fields_replaced s ys zs x e q l label type)

pub field_added : (s : Solution) (xs more es : List LabelField) (i : ℕ) (x e : LabelField) → more ≡ xs ++ x ∷ [] → x.label ≡ e.label
    → ground_field s (field_term x.field) ≡ ground_field s (field_term e.field) → i < length es → e ≡ get_or es i e → SameFields s xs (take i es) → SameFields s more (take (i + 1) es)
field_added s xs more es i x e pushed label type lt at h zs q l =
    let next : take (i + 1) es ≡ take i es ++ e ∷ [] = take_more es i e lt ∙ ap (λ d. take i es ++ d ∷ []) (sym at) in
    ap (λ ys. ground_fields s (fields_of (map entry_term (ys ++ zs))) q l) pushed
    ∙ ap (λ ys. ground_fields s (fields_of (map entry_term ys)) q l) (append_assoc xs (x ∷ []) zs)
    ∙ h (x ∷ zs) q l ∙ fields_replaced s (take i es) zs x e q l label type
    ∙ sym (ap (λ ys. ground_fields s (fields_of (map entry_term ys)) q l) (append_assoc (take i es) (e ∷ []) zs))
    ∙ sym (ap (λ ys. ground_fields s (fields_of (map entry_term (ys ++ zs))) q l) next)

pub fields_all : (s : Solution) (xs es ls : List LabelField) (i : ℕ) → es ≡ ls → length es ≤ i → SameFields s xs (take i es) → SameFields s xs ls
fields_all s xs es ls i same le h = subst (SameFields s xs) (take_all es i le ∙ same) h

fields_whole : (s : Solution) (xs ys : List LabelField) → SameFields s xs ys → (q : GroundRow) (l : Label)
    → ground_fields s (fields_of (map entry_term xs)) q l ≡ ground_fields s (fields_of (map entry_term ys)) q l
fields_whole s xs ys h q l =
    ap (λ zs. ground_fields s (fields_of (map entry_term zs)) q l) (sym (none_after xs)) ∙ h [] q l ∙ ap (λ zs. ground_fields s (fields_of (map entry_term zs)) q l) (none_after ys)

-- functions and rows

fun_parts : (s : Solution) (f : FunTy) → ground s (fun (fun_term f).required (fun_term f).pipe (fun_term f).result)
    ≡ g_fun (ground_labels s (labels_of (map label_term (out-FunTy f).required))) (ground_pipe s (pipe_of (option_map term (out-FunTy f).pipe))) (ground s (term (out-FunTy f).result))
fun_parts s f =
    let t : ground s (fun_term f).result ≡ ground s (term (out-FunTy f).result) = (type_is (ground s (fun_term f).result) (ground s (term (out-FunTy f).result))).0 (sym (result_part s f)) in
    λ i. g_fun (λ l. sym (labels_part s f l) i) (sym (pipe_part s f) i) (t i)

pub parts_same : (s : Solution) (f : FunTy) (required : List LabelTy) (pipe : Option Ty) (result : Ty) → SameLabels s required (out-FunTy f).required
    → ground_pipe s (pipe_of (option_map term pipe)) ≡ ground_pipe s (pipe_of (option_map term (out-FunTy f).pipe)) → ground s (term result) ≡ ground s (term (out-FunTy f).result)
    → ground s (fun (fun_term (roll-FunTy (record { required = required; pipe = pipe; result = result }))).required (fun_term (roll-FunTy (record { required = required; pipe = pipe; result = result }))).pipe
    (fun_term (roll-FunTy (record { required = required; pipe = pipe; result = result }))).result)
    ≡ ground s (fun (fun_term f).required (fun_term f).pipe (fun_term f).result)
parts_same s f required pipe result labels pipes results =
    fun_parts s (roll-FunTy (record { required = required; pipe = pipe; result = result }))
    ∙ ap (λ o. g_fun (ground_labels s (labels_of (map label_term o.required))) (ground_pipe s (pipe_of (option_map term o.pipe))) (ground s (term o.result))) (out-roll-FunTy (record { required = required; pipe = pipe; result = result }))
    ∙ (λ i. g_fun (λ l. labels_whole s required (out-FunTy f).required labels l i) (pipes i) (results i)) ∙ sym (fun_parts s f)

over_same : (s : Solution) (fs : List LabelField) (q o : GroundRow) → ((l : Label) → q l ≡ o l) → (l : Label) → ground_fields s (fields_of (map entry_term fs)) q l ≡ ground_fields s (fields_of (map entry_term fs)) o l
over_same s fs q o h l = ap (λ row. ground_fields s (fields_of (map entry_term fs)) row l) (λ j k. h k j)

pub row_same : (s : Solution) (r : RowTy) (fs : List LabelField) (rest : Rest) → SameFields s fs (out-RowTy r).fields → ((l : Label) → ground_tail s (rest_term rest) l ≡ ground_tail s (rest_term (out-RowTy r).rest) l)
    → (l : Label) → ground_row s (row_term (roll-RowTy (record { fields = fs; rest = rest }))) l ≡ ground_row s (row_term r) l
row_same s r fs rest h tail l =
    ground_row_is s (roll-RowTy (record { fields = fs; rest = rest })) l
    ∙ ap (λ o. ground_fields s (fields_of (map entry_term o.fields)) (ground_tail s (rest_term o.rest)) l) (out-roll-RowTy (record { fields = fs; rest = rest }))
    ∙ fields_whole s fs (out-RowTy r).fields h (ground_tail s (rest_term rest)) l
    ∙ over_same s (out-RowTy r).fields (ground_tail s (rest_term rest)) (ground_tail s (rest_term (out-RowTy r).rest)) tail l ∙ sym (ground_row_is s r l)

-- heads

module _ (s : Solution) (t head : Ty) (same : value s (p_is (term head)) ≡ value s (p_is (term t))) where
  to_type : ground s (term head) ≡ ground s (term t)
  to_type = (type_is (ground s (term head)) (ground s (term t))).0 same

  pub array_same : (x u : Ty) → head ≡ ty.Array u → ground s (term x) ≡ ground s (term u) → ground s (term (ty.Array x)) ≡ ground s (term t)
  array_same x u e h = ap (ground s) (term_array x) ∙ ap g_array h ∙ sym (ground_array s head u e) ∙ to_type

  pub fun_same : (x u : FunTy) → head ≡ ty.Fun u
      → ground s (fun (fun_term x).required (fun_term x).pipe (fun_term x).result) ≡ ground s (fun (fun_term u).required (fun_term u).pipe (fun_term u).result) → ground s (term (ty.Fun x)) ≡ ground s (term t)
  fun_same x u e h = ap (ground s) (term_fun x) ∙ h ∙ sym (ground_fun s head u e) ∙ to_type

  pub rec_same : (x u : RowTy) → head ≡ ty.Rec u → ((l : Label) → ground_row s (row_term x) l ≡ ground_row s (row_term u) l) → ground s (term (ty.Rec x)) ≡ ground s (term t)
  rec_same x u e h = ap (ground s) (term_rec x) ∙ ap g_rec (λ j l. h l j) ∙ sym (ground_rec s head u e) ∙ to_type

  pub stream_same : (x u : RowTy) → head ≡ ty.Stream u → ((l : Label) → ground_row s (row_term x) l ≡ ground_row s (row_term u) l) → ground s (term (ty.Stream x)) ≡ ground s (term t)
  stream_same x u e h = ap (ground s) (term_stream x) ∙ ap g_stream (λ j l. h l j) ∙ sym (ground_stream s head u e) ∙ to_type

  pub copy_same : (x : Ty) → x ≡ head → ground s (term x) ≡ ground s (term t)
  copy_same x e = ap (λ u. ground s (term u)) e ∙ to_type

-- fields and rests

pub is_same : (s : Solution) (x t : Ty) (f : FieldTy) → f ≡ fields.Is t → ground s (term x) ≡ ground s (term t) → ground_field s (field_term (fields.Is x)) ≡ ground_field s (field_term f)
is_same s x t f e h = ap (ground_field s) (field_is x) ∙ ap g_is h ∙ sym (ap (ground_field s) (ap field_term e ∙ field_is t))

pub variable_same : (s : Solution) (x f : FieldTy) (n : ℕ) → f ≡ fields.Var n → ground_field s (field_term x) ≡ s.field_of n → ground_field s (field_term x) ≡ ground_field s (field_term f)
variable_same s x f n e h = h ∙ sym (ap (ground_field s) (ap field_term e ∙ field_var n))

pub default_same : (s : Solution) (x d : FieldTy) (r : Rest) → r ≡ rests.Default d → ground_field s (field_term x) ≡ ground_field s (field_term d) → (l : Label)
    → ground_tail s (rest_term (rests.Default x)) l ≡ ground_tail s (rest_term r) l
default_same s x d r e h l = ap (λ t. ground_tail s t l) (tail_default x) ∙ h ∙ sym (ap (λ t. ground_tail s t l) (ap rest_term e ∙ tail_default d))
