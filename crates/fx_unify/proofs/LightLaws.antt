-- Which types count nothing as a field.
use Rattle.std.proofs.Common.{◌≡◌, ◌≢◌, sym, ap, ◌∙◌, ℕ, false, List}
use Rattle.fx_types.specs.declared.term.Ty.{Ty}
use Rattle.fx_types.specs.declared.term.Ty.TheVariants as ty
use Rattle.fx_types.specs.Shape.{term}
use Rattle.fx_types.proofs.ShapeLaws.{term_span, term_pattern, term_done, term_array, term_fun, term_rec, term_stream}
use Rattle.fx_unify.specs.declared.sorts.Sorts as sorts
use Rattle.fx_unify.specs.Sorts.{is_light}
use Rattle.fx_unify.proofs.Cases.{Form, is_bool, is_int, is_text, is_time, is_span, is_pattern, is_done, is_variable, is_array, is_fun, is_rec, is_stream, form_of}

heavy_form : (ks : List sorts.Sorts) (t : Ty) → Form t → t ≢ ty.Bool → t ≢ ty.Int → t ≢ ty.Text → t ≢ ty.Time → ((n : ℕ) → t ≡ ty.Var n → ⊥) → false ≡ is_light ks (term t)
heavy_form ks t (is_bool q) a b c d v = absurd (a q)
heavy_form ks t (is_int q) a b c d v = absurd (b q)
heavy_form ks t (is_text q) a b c d v = absurd (c q)
heavy_form ks t (is_time q) a b c d v = absurd (d q)
heavy_form ks t (is_variable n q) a b c d v = absurd (v n q)
heavy_form ks t (is_span q) a b c d v = sym (ap (is_light ks) (ap term q ∙ term_span))
heavy_form ks t (is_pattern q) a b c d v = sym (ap (is_light ks) (ap term q ∙ term_pattern))
heavy_form ks t (is_done q) a b c d v = sym (ap (is_light ks) (ap term q ∙ term_done))
heavy_form ks t (is_array x q) a b c d v = sym (ap (is_light ks) (ap term q ∙ term_array x))
heavy_form ks t (is_fun x q) a b c d v = sym (ap (is_light ks) (ap term q ∙ term_fun x))
heavy_form ks t (is_rec x q) a b c d v = sym (ap (is_light ks) (ap term q ∙ term_rec x))
heavy_form ks t (is_stream x q) a b c d v = sym (ap (is_light ks) (ap term q ∙ term_stream x))

pub not_light : (ks : List sorts.Sorts) (t : Ty) → t ≢ ty.Bool → t ≢ ty.Int → t ≢ ty.Text → t ≢ ty.Time → ((n : ℕ) → t ≡ ty.Var n → ⊥) → false ≡ is_light ks (term t)
not_light ks t a b c d v = heavy_form ks t (form_of t) a b c d v
