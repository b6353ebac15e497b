-- Aggregates and selectors: the schemes at a column, and their lines.
use Rattle.std.proofs.Common.{refl, ap, ◌∙◌, List, [], ◌∷◌, None, Some, inl, inr, lit≤}
use Rattle.std.specs.Prelude.{codes}
use Rattle.fx_types.specs.Term.{Label}
use Rattle.fx_types.specs.Ground.{GroundRow, g_int, g_is, g_stream}
use Rattle.fx_schemes.specs.declared.simple.Simple.TheVariants as simple
use Rattle.fx_schemes.specs.declared.simple.Bound as kinds
use Rattle.fx_schemes.specs.declared.simple.Bound.TheVariants as bound
use Rattle.fx_schemes.specs.Line.{Line, put, take_out, from_tables}
use Rattle.fx_schemes.specs.Builtins.{Counts, Sums, Distincts, Extremes, Ends, AtColumn}
use Rattle.fx_schemes.specs.Plan.{Cell}
use Rattle.fx_schemes.specs.Scheme.{Scheme, IsSchemeOf}
use Rattle.fx_schemes.proofs.RowLaws.{has_put, moved}
use Rattle.fx_schemes.proofs.SchemeLaws.{built, solution, over_tables}

-- of what has one label argument and no other parameter
abbrev at_column : kinds.Bound → List Cell → List Cell → Scheme
at_column b asked made = over_tables (codes "column" ∷ []) [] [] 1 b asked made

abbrev to_row : GroundRow → GroundRow → Line
to_row r q = from_tables r (codes "column" ∷ []) [] [] (g_stream q)

abbrev timeless : GroundRow → GroundRow
timeless r = take_out (codes "_time") r

abbrev pub counts : Label → Scheme
counts x = at_column bound.Column ((x, Some (simple.Var 0)) ∷ []) ((x, Some simple.Int) ∷ (codes "_time", None) ∷ [])

pub counts_law : (x : Label) → IsSchemeOf (AtColumn Counts x) (counts x)
counts_law x = built _ _ (lit≤ tt) refl (lit≤ tt) (inr (inl refl), tt) (λ L. (
  λ h. (_, _, (h.0.type_of 0, h.1.0, has_put x _ (h.0.row_of 0), refl), h.2),
  λ d. (
    solution d.2.0 d.0,
    (d.2.1, tt),
    d.3 ∙ ap (to_row d.0) d.2.3 ∙ moved x (g_is d.2.0) d.0 (λ r. to_row r (put x g_int (timeless r))) d.2.2,
  ),
))

abbrev pub sums : Label → Scheme
sums x = at_column bound.Free ((x, Some simple.Int) ∷ []) ((x, Some simple.Int) ∷ (codes "_time", None) ∷ [])

pub sums_law : (x : Label) → IsSchemeOf (AtColumn Sums x) (sums x)
sums_law x = built _ _ (lit≤ tt) refl (lit≤ tt) tt (λ L. (
  λ h. (_, _, (has_put x _ (h.0.row_of 0), refl), h.2),
  λ d. (
    solution g_int d.0,
    tt,
    d.3 ∙ ap (to_row d.0) d.2.1 ∙ moved x (g_is g_int) d.0 (λ r. to_row r (put x g_int (timeless r))) d.2.0,
  ),
))

abbrev pub distincts : Label → Scheme
distincts x = at_column bound.Column ((x, Some (simple.Var 0)) ∷ []) ((codes "_value", Some (simple.Var 0)) ∷ (codes "_time", None) ∷ [])

pub distincts_law : (x : Label) → IsSchemeOf (AtColumn Distincts x) (distincts x)
distincts_law x = built _ _ (lit≤ tt) refl (lit≤ tt) (inr (inl refl), tt) (λ L. (
  λ h. (_, _, (h.0.type_of 0, h.1.0, has_put x _ (h.0.row_of 0), refl), h.2),
  λ d. (
    solution d.2.0 d.0,
    (d.2.1, tt),
    d.3 ∙ ap (to_row d.0) d.2.3 ∙ moved x (g_is d.2.0) d.0 (λ r. to_row r (put (codes "_value") d.2.0 (timeless r))) d.2.2,
  ),
))

abbrev pub selects : kinds.Bound → Label → Scheme
selects b x = at_column b ((x, Some (simple.Var 0)) ∷ []) []

pub extremes_law : (x : Label) → IsSchemeOf (AtColumn Extremes x) (selects bound.Ordered x)
extremes_law x = built _ _ (lit≤ tt) refl (lit≤ tt) (inl refl, tt) (λ L. (
  λ h. (_, _, (h.0.type_of 0, h.1.0, has_put x _ (h.0.row_of 0), refl), h.2),
  λ d. (solution d.2.0 d.0, (d.2.1, tt), d.3 ∙ ap (to_row d.0) d.2.3 ∙ moved x (g_is d.2.0) d.0 (λ r. to_row r r) d.2.2),
))

pub ends_law : (x : Label) → IsSchemeOf (AtColumn Ends x) (selects bound.Column x)
ends_law x = built _ _ (lit≤ tt) refl (lit≤ tt) (inr (inl refl), tt) (λ L. (
  λ h. (_, _, (h.0.type_of 0, h.1.0, has_put x _ (h.0.row_of 0), refl), h.2),
  λ d. (solution d.2.0 d.0, (d.2.1, tt), d.3 ∙ ap (to_row d.0) d.2.3 ∙ moved x (g_is d.2.0) d.0 (λ r. to_row r r) d.2.2),
))
