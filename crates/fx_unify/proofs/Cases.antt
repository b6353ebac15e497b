-- The forms of a type, and what a type is not.
use Rattle.std.proofs.Common.{◌≡◌, refl, sym, ap, ◌∙◌, ℕ, ◌≤◌, None, arith}
use Rattle.fx_types.specs.declared.term.FieldTy.{FieldTy}
use Rattle.fx_types.specs.declared.term.FunTy.{FunTy}
use Rattle.fx_types.specs.declared.term.LabelField.{LabelField}
use Rattle.fx_types.specs.declared.term.LabelTy.{LabelTy}
use Rattle.fx_types.specs.declared.term.Rest.{Rest}
use Rattle.fx_types.specs.declared.term.RowTy.{RowTy}
use Rattle.fx_types.specs.declared.term.Ty.{Ty}
use Rattle.fx_types.specs.declared.term.FieldTy.TheViews.{roll-Ty, out-Ty, roll-out-Ty}
use Rattle.fx_types.specs.declared.term.FieldTy.TheOpen.{Ty-F}
use Rattle.fx_types.specs.declared.term.Ty.TheVariants as ty
use Rattle.fx_types.specs.Term.{Term, bool, int, text, time, span, pattern, done, type_variable, array, fun, rec, stream}
use Rattle.fx_types.specs.Ground.{Ground, g_bool, g_int, g_text, g_time, g_span, g_pattern, g_done, g_array, g_fun, g_rec, g_stream}
use Rattle.fx_types.specs.Instance.{Solution, ground}
use Rattle.fx_types.specs.Shape.{term}
use Rattle.fx_types.proofs.ShapeLaws.{term_bool, term_int, term_text, term_time, term_span, term_pattern, term_done, term_variable, term_array, term_fun, term_rec, term_stream}
use Rattle.fx_unify.specs.Part.{p_is, Entries}
use Rattle.fx_unify.specs.Store.{bound_to}
use Rattle.fx_unify.specs.Tag.{tag_of}

pub data Form (t : Ty) : Type 0 where
  is_bool : t ≡ ty.Bool → Form t
  is_int : t ≡ ty.Int → Form t
  is_text : t ≡ ty.Text → Form t
  is_time : t ≡ ty.Time → Form t
  is_span : t ≡ ty.Span → Form t
  is_pattern : t ≡ ty.Pattern → Form t
  is_done : t ≡ ty.Done → Form t
  is_variable : (n : ℕ) → t ≡ ty.Var n → Form t
  is_array : (x : Ty) → t ≡ ty.Array x → Form t
  is_fun : (x : FunTy) → t ≡ ty.Fun x → Form t
  is_rec : (x : RowTy) → t ≡ ty.Rec x → Form t
  is_stream : (x : RowTy) → t ≡ ty.Stream x → Form t

layer : (t : Ty) (l : Ty-F FieldTy Rest Ty FunTy LabelField LabelTy RowTy) → t ≡ roll-Ty l → Form t
layer t Ty-F.Bool e = is_bool (e ∙ ty.rolls-Bool)
layer t Ty-F.Int e = is_int (e ∙ ty.rolls-Int)
layer t Ty-F.Text e = is_text (e ∙ ty.rolls-Text)
layer t Ty-F.Time e = is_time (e ∙ ty.rolls-Time)
layer t Ty-F.Span e = is_span (e ∙ ty.rolls-Span)
layer t Ty-F.Pattern e = is_pattern (e ∙ ty.rolls-Pattern)
layer t Ty-F.Done e = is_done (e ∙ ty.rolls-Done)
layer t (Ty-F.«Ty::Var» n) e = is_variable n (e ∙ ty.rolls-Var n)
layer t (Ty-F.Array x) e = is_array x (e ∙ ty.rolls-Array x)
layer t (Ty-F.Fun x) e = is_fun x (e ∙ ty.rolls-Fun x)
layer t (Ty-F.Rec x) e = is_rec x (e ∙ ty.rolls-Rec x)
layer t (Ty-F.Stream x) e = is_stream x (e ∙ ty.rolls-Stream x)

pub form_of : (t : Ty) → Form t
form_of t = layer t (out-Ty t) (sym (roll-out-Ty t))

-- what is no variable is bound to nothing
at_form : (e : Entries) (t : Ty) (x : Term) → term t ≡ x → bound_to e (p_is x) ≡ None → bound_to e (p_is (term t)) ≡ None
at_form e t x same h = ap (λ y. bound_to e (p_is y)) same ∙ h

not_bound : (e : Entries) (t : Ty) → Form t → ((n : ℕ) → t ≡ ty.Var n → ⊥) → bound_to e (p_is (term t)) ≡ None
not_bound e t (is_bool q) h = at_form e t bool (ap term q ∙ term_bool) refl
not_bound e t (is_int q) h = at_form e t int (ap term q ∙ term_int) refl
not_bound e t (is_text q) h = at_form e t text (ap term q ∙ term_text) refl
not_bound e t (is_time q) h = at_form e t time (ap term q ∙ term_time) refl
not_bound e t (is_span q) h = at_form e t span (ap term q ∙ term_span) refl
not_bound e t (is_pattern q) h = at_form e t pattern (ap term q ∙ term_pattern) refl
not_bound e t (is_done q) h = at_form e t done (ap term q ∙ term_done) refl
not_bound e t (is_variable n q) h = absurd (h n q)
not_bound e t (is_array x q) h = at_form e t _ (ap term q ∙ term_array x) refl
not_bound e t (is_fun x q) h = at_form e t _ (ap term q ∙ term_fun x) refl
not_bound e t (is_rec x q) h = at_form e t _ (ap term q ∙ term_rec x) refl
not_bound e t (is_stream x q) h = at_form e t _ (ap term q ∙ term_stream x) refl

pub unbound : (e : Entries) (t : Ty) → ((n : ℕ) → t ≡ ty.Var n → ⊥) → bound_to e (p_is (term t)) ≡ None
unbound e t h = not_bound e t (form_of t) h

-- tags

tag_form : (t : Ty) → Form t → ℕ
tag_form t (is_bool q) = 1
tag_form t (is_int q) = 2
tag_form t (is_text q) = 3
tag_form t (is_time q) = 4
tag_form t (is_span q) = 5
tag_form t (is_pattern q) = 6
tag_form t (is_done q) = 7
tag_form t (is_array x q) = 8
tag_form t (is_fun x q) = 9
tag_form t (is_rec x q) = 10
tag_form t (is_stream x q) = 11
tag_form t (is_variable n q) = 12

tag_form_is : (t : Ty) (f : Form t) → tag_of (term t) ≡ tag_form t f
unfolding tag_form
tag_form_is t (is_bool q) = ap tag_of (ap term q ∙ term_bool)
tag_form_is t (is_int q) = ap tag_of (ap term q ∙ term_int)
tag_form_is t (is_text q) = ap tag_of (ap term q ∙ term_text)
tag_form_is t (is_time q) = ap tag_of (ap term q ∙ term_time)
tag_form_is t (is_span q) = ap tag_of (ap term q ∙ term_span)
tag_form_is t (is_pattern q) = ap tag_of (ap term q ∙ term_pattern)
tag_form_is t (is_done q) = ap tag_of (ap term q ∙ term_done)
tag_form_is t (is_array x q) = ap tag_of (ap term q ∙ term_array x)
tag_form_is t (is_fun x q) = ap tag_of (ap term q ∙ term_fun x)
tag_form_is t (is_rec x q) = ap tag_of (ap term q ∙ term_rec x)
tag_form_is t (is_stream x q) = ap tag_of (ap term q ∙ term_stream x)
tag_form_is t (is_variable n q) = ap tag_of (ap term q ∙ term_variable n)

-- a head's tag is at most 11
head_form : (t : Ty) (f : Form t) → ((n : ℕ) → t ≡ ty.Var n → ⊥) → tag_form t f ≤ 11
unfolding tag_form
head_form t (is_bool q) h = omega arith
head_form t (is_int q) h = omega arith
head_form t (is_text q) h = omega arith
head_form t (is_time q) h = omega arith
head_form t (is_span q) h = omega arith
head_form t (is_pattern q) h = omega arith
head_form t (is_done q) h = omega arith
head_form t (is_array x q) h = omega arith
head_form t (is_fun x q) h = omega arith
head_form t (is_rec x q) h = omega arith
head_form t (is_stream x q) h = omega arith
head_form t (is_variable n q) h = absurd (h n q)

pub is_head : (t : Ty) → ((n : ℕ) → t ≡ ty.Var n → ⊥) → tag_of (term t) ≤ 11
is_head t h = let e : tag_of (term t) ≡ tag_form t (form_of t) = tag_form_is t (form_of t) in let le : tag_form t (form_of t) ≤ 11 = head_form t (form_of t) h in omega arith

-- a type with the tag of arrays, functions, records or streams is one
array_form : (t : Ty) (f : Form t) → tag_form t f ≡ 8 → ((x : Ty) → t ≡ ty.Array x → ⊥) → ⊥
unfolding tag_form
array_form t (is_array x q) e h = h x q
array_form t (is_bool q) e h = omega arith
array_form t (is_int q) e h = omega arith
array_form t (is_text q) e h = omega arith
array_form t (is_time q) e h = omega arith
array_form t (is_span q) e h = omega arith
array_form t (is_pattern q) e h = omega arith
array_form t (is_done q) e h = omega arith
array_form t (is_fun x q) e h = omega arith
array_form t (is_rec x q) e h = omega arith
array_form t (is_stream x q) e h = omega arith
array_form t (is_variable n q) e h = omega arith

fun_form : (t : Ty) (f : Form t) → tag_form t f ≡ 9 → ((x : FunTy) → t ≡ ty.Fun x → ⊥) → ⊥
unfolding tag_form
fun_form t (is_fun x q) e h = h x q
fun_form t (is_bool q) e h = omega arith
fun_form t (is_int q) e h = omega arith
fun_form t (is_text q) e h = omega arith
fun_form t (is_time q) e h = omega arith
fun_form t (is_span q) e h = omega arith
fun_form t (is_pattern q) e h = omega arith
fun_form t (is_done q) e h = omega arith
fun_form t (is_array x q) e h = omega arith
fun_form t (is_rec x q) e h = omega arith
fun_form t (is_stream x q) e h = omega arith
fun_form t (is_variable n q) e h = omega arith

rec_form : (t : Ty) (f : Form t) → tag_form t f ≡ 10 → ((x : RowTy) → t ≡ ty.Rec x → ⊥) → ⊥
unfolding tag_form
rec_form t (is_rec x q) e h = h x q
rec_form t (is_bool q) e h = omega arith
rec_form t (is_int q) e h = omega arith
rec_form t (is_text q) e h = omega arith
rec_form t (is_time q) e h = omega arith
rec_form t (is_span q) e h = omega arith
rec_form t (is_pattern q) e h = omega arith
rec_form t (is_done q) e h = omega arith
rec_form t (is_array x q) e h = omega arith
rec_form t (is_fun x q) e h = omega arith
rec_form t (is_stream x q) e h = omega arith
rec_form t (is_variable n q) e h = omega arith

stream_form : (t : Ty) (f : Form t) → tag_form t f ≡ 11 → ((x : RowTy) → t ≡ ty.Stream x → ⊥) → ⊥
unfolding tag_form
stream_form t (is_stream x q) e h = h x q
stream_form t (is_bool q) e h = omega arith
stream_form t (is_int q) e h = omega arith
stream_form t (is_text q) e h = omega arith
stream_form t (is_time q) e h = omega arith
stream_form t (is_span q) e h = omega arith
stream_form t (is_pattern q) e h = omega arith
stream_form t (is_done q) e h = omega arith
stream_form t (is_array x q) e h = omega arith
stream_form t (is_fun x q) e h = omega arith
stream_form t (is_rec x q) e h = omega arith
stream_form t (is_variable n q) e h = omega arith

compound_form : (t : Ty) (f : Form t) → 8 ≤ tag_form t f → tag_form t f ≤ 11 → ((x : Ty) → t ≡ ty.Array x → ⊥) → ((x : FunTy) → t ≡ ty.Fun x → ⊥)
    → ((x : RowTy) → t ≡ ty.Rec x → ⊥) → ((x : RowTy) → t ≡ ty.Stream x → ⊥) → ⊥
unfolding tag_form
compound_form t (is_array x q) e d h i j k = h x q
compound_form t (is_fun x q) e d h i j k = i x q
compound_form t (is_rec x q) e d h i j k = j x q
compound_form t (is_stream x q) e d h i j k = k x q
compound_form t (is_bool q) e d h i j k = omega arith
compound_form t (is_int q) e d h i j k = omega arith
compound_form t (is_text q) e d h i j k = omega arith
compound_form t (is_time q) e d h i j k = omega arith
compound_form t (is_span q) e d h i j k = omega arith
compound_form t (is_pattern q) e d h i j k = omega arith
compound_form t (is_done q) e d h i j k = omega arith
compound_form t (is_variable n q) e d h i j k = omega arith

pub is_a_compound : (t : Ty) → 8 ≤ tag_of (term t) → tag_of (term t) ≤ 11 → ((x : Ty) → t ≡ ty.Array x → ⊥) → ((x : FunTy) → t ≡ ty.Fun x → ⊥)
    → ((x : RowTy) → t ≡ ty.Rec x → ⊥) → ((x : RowTy) → t ≡ ty.Stream x → ⊥) → ⊥
is_a_compound t e d h i j k =
    let same : tag_of (term t) ≡ tag_form t (form_of t) = tag_form_is t (form_of t) in
    compound_form t (form_of t) (omega arith) (omega arith) h i j k

pub is_an_array : (t : Ty) → tag_of (term t) ≡ 8 → ((x : Ty) → t ≡ ty.Array x → ⊥) → ⊥
is_an_array t e h = array_form t (form_of t) (sym (tag_form_is t (form_of t)) ∙ e) h

pub is_a_function : (t : Ty) → tag_of (term t) ≡ 9 → ((x : FunTy) → t ≡ ty.Fun x → ⊥) → ⊥
is_a_function t e h = fun_form t (form_of t) (sym (tag_form_is t (form_of t)) ∙ e) h

pub is_a_record : (t : Ty) → tag_of (term t) ≡ 10 → ((x : RowTy) → t ≡ ty.Rec x → ⊥) → ⊥
is_a_record t e h = rec_form t (form_of t) (sym (tag_form_is t (form_of t)) ∙ e) h

pub is_a_stream : (t : Ty) → tag_of (term t) ≡ 11 → ((x : RowTy) → t ≡ ty.Stream x → ⊥) → ⊥
is_a_stream t e h = stream_form t (form_of t) (sym (tag_form_is t (form_of t)) ∙ e) h

-- ground types of different tags differ, and those without parts are known by their tags

abbrev ground_tag : Ground → ℕ
ground_tag g_bool = 1
ground_tag g_int = 2
ground_tag g_text = 3
ground_tag g_time = 4
ground_tag g_span = 5
ground_tag g_pattern = 6
ground_tag g_done = 7
ground_tag (g_array t) = 8
ground_tag (g_fun r p t) = 9
ground_tag (g_rec r) = 10
ground_tag (g_stream r) = 11

same_tag : (s : Solution) (t : Term) → tag_of t ≤ 11 → ground_tag (ground s t) ≡ tag_of t
same_tag s bool h = refl
same_tag s int h = refl
same_tag s text h = refl
same_tag s time h = refl
same_tag s span h = refl
same_tag s pattern h = refl
same_tag s done h = refl
same_tag s (array t) h = refl
same_tag s (fun ls p t) h = refl
same_tag s (rec fs r) h = refl
same_tag s (stream fs r) h = refl
same_tag s (type_variable n) h = absurd (omega arith)

pub tags_differ : (s : Solution) (t u : Term) → tag_of t ≤ 11 → tag_of u ≤ 11 → (tag_of t ≡ tag_of u → ⊥) → ground s t ≡ ground s u → ⊥
tags_differ s t u p q h e = h (sym (same_tag s t p) ∙ ap ground_tag e ∙ same_tag s u q)

pub same_basics : (s : Solution) (t u : Term) → tag_of t ≤ 7 → tag_of t ≡ tag_of u → ground s t ≡ ground s u
same_basics s bool bool h e = refl
same_basics s int int h e = refl
same_basics s text text h e = refl
same_basics s time time h e = refl
same_basics s span span h e = refl
same_basics s pattern pattern h e = refl
same_basics s done done h e = refl
same_basics s t u h e = absurd (omega arith)
