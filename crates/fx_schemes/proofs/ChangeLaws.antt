-- What changes columns: the schemes at the words, and their lines.
use Rattle.std.proofs.Common.{◌≡◌, refl, ◌∙◌, [], ◌∷◌, Some, inl, inr, lit≤}
use Rattle.std.specs.Prelude.{codes}
use Rattle.fx_types.specs.Term.{Label}
use Rattle.fx_types.specs.Ground.{Ground, GroundRow, g_int, g_text, g_time, g_span, g_is, g_stream}
use Rattle.fx_schemes.specs.declared.simple.Simple.TheVariants as simple
use Rattle.fx_schemes.specs.declared.simple.Bound.TheVariants as bound
use Rattle.fx_schemes.specs.Line.{Line, put, Has, IsKind, from_tables}
use Rattle.fx_schemes.specs.Builtins.{OfPart}
use Rattle.fx_schemes.specs.Scheme.{Scheme, IsSchemeOf}
use Rattle.fx_schemes.proofs.RowLaws.{has_put, moved}
use Rattle.fx_schemes.proofs.SchemeLaws.{built, solution, over_tables}

abbrev pub duplicates : Label → Label → Scheme
duplicates x y = over_tables (codes "column" ∷ codes "as" ∷ []) [] [] 1 bound.Column ((x, Some (simple.Var 0)) ∷ []) ((y, Some (simple.Var 0)) ∷ [])

abbrev duplicated : Label → Ground → GroundRow → Line
duplicated y c r = from_tables r (codes "column" ∷ codes "as" ∷ []) [] [] (g_stream (put y c r))

pub duplicates_law : (x y : Label)
    → IsSchemeOf (λ L. (r : GroundRow) × (c : Ground) × IsKind c × Has r x c × (L ≡ duplicated y c r)) (duplicates x y)
duplicates_law x y = built _ _ (lit≤ tt) refl (lit≤ tt) (inr (inl refl), tt) (λ L. (
  λ h. (_, h.0.type_of 0, h.1.0, has_put x _ (h.0.row_of 0), h.2),
  λ d. (solution d.1 d.0, (d.2, tt), d.4 ∙ moved x (g_is d.1) d.0 (duplicated y d.1) d.3),
))

abbrev pub sets : Label → Scheme
sets x = over_tables (codes "key" ∷ []) ((codes "value", simple.Text) ∷ []) [] 1 bound.Free [] ((x, Some simple.Text) ∷ [])

pub sets_law : (x : Label)
    → IsSchemeOf (λ L. (r : GroundRow) × (L ≡ from_tables r (codes "key" ∷ []) ((codes "value", g_text) ∷ []) [] (g_stream (put x g_text r)))) (sets x)
sets_law x = built _ _ (lit≤ tt) refl (lit≤ tt) tt (λ L. (λ h. (h.0.row_of 0, h.2), λ d. (solution g_int d.0, tt, d.1)))

abbrev pub fills : Label → Scheme
fills x = over_tables (codes "column" ∷ []) ((codes "value", simple.Var 0) ∷ []) [] 1 bound.Column ((x, Some (simple.Var 0)) ∷ []) []

abbrev filled : Ground → GroundRow → Line
filled c r = from_tables r (codes "column" ∷ []) ((codes "value", c) ∷ []) [] (g_stream r)

pub fills_law : (x : Label) → IsSchemeOf (λ L. (r : GroundRow) × (c : Ground) × IsKind c × Has r x c × (L ≡ filled c r)) (fills x)
fills_law x = built _ _ (lit≤ tt) refl (lit≤ tt) (inr (inl refl), tt) (λ L. (
  λ h. (_, h.0.type_of 0, h.1.0, has_put x _ (h.0.row_of 0), h.2),
  λ d. (solution d.1 d.0, (d.2, tt), d.4 ∙ moved x (g_is d.1) d.0 (filled d.1) d.3),
))

pub part_law : IsSchemeOf OfPart (over_tables [] ((codes "n", simple.Int) ∷ []) ((codes "offset", simple.Int) ∷ []) 1 bound.Free [] [])
part_law = built _ _ (lit≤ tt) refl (lit≤ tt) tt (λ L. (λ h. (h.0.row_of 0, h.2), λ d. (solution g_int d.0, tt, d.1)))

abbrev pub steps : Label → Scheme
steps x = over_tables (codes "columns" ∷ []) [] [] 1 bound.Free ((x, Some simple.Int) ∷ []) []

abbrev stepped : GroundRow → Line
stepped r = from_tables r (codes "columns" ∷ []) [] [] (g_stream r)

pub steps_law : (x : Label) → IsSchemeOf (λ L. (r : GroundRow) × Has r x g_int × (L ≡ stepped r)) (steps x)
steps_law x = built _ _ (lit≤ tt) refl (lit≤ tt) tt (λ L. (
  λ h. (_, has_put x _ (h.0.row_of 0), h.2),
  λ d. (solution g_int d.0, tt, d.2 ∙ moved x (g_is g_int) d.0 stepped d.1),
))

abbrev pub elapses : Label → Label → Scheme
elapses x y =
    over_tables (codes "timeColumn" ∷ codes "columnName" ∷ []) [] ((codes "unit", simple.Span) ∷ []) 1 bound.Free ((x, Some simple.Time) ∷ []) ((y, Some simple.Int) ∷ [])

abbrev elapsed : Label → GroundRow → Line
elapsed y r = from_tables r (codes "timeColumn" ∷ codes "columnName" ∷ []) [] ((codes "unit", g_span) ∷ []) (g_stream (put y g_int r))

pub elapses_law : (x y : Label) → IsSchemeOf (λ L. (r : GroundRow) × Has r x g_time × (L ≡ elapsed y r)) (elapses x y)
elapses_law x y = built _ _ (lit≤ tt) refl (lit≤ tt) tt (λ L. (
  λ h. (_, has_put x _ (h.0.row_of 0), h.2),
  λ d. (solution g_int d.0, tt, d.2 ∙ moved x (g_is g_time) d.0 (elapsed y) d.1),
))
