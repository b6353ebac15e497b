-- `join.time`: its scheme, and its lines.
use Rattle.std.proofs.Common.{refl, ◌∙◌, ℕ, [], ◌∷◌, Some, lit≤}
use Rattle.std.specs.Prelude.{codes}
use Rattle.fx_types.specs.Ground.{GroundRow, g_time, g_is, g_rec, g_stream}
use Rattle.fx_types.specs.Term.{Term, stream, no_fields, row_variable}
use Rattle.fx_schemes.specs.declared.simple.Simple.TheVariants as simple
use Rattle.fx_schemes.specs.Line.{Line, put, piped, of_rows}
use Rattle.fx_schemes.specs.Builtins.{OfTimes}
use Rattle.fx_schemes.specs.Plan.{fields_in, labelled, record_of, sides_function}
use Rattle.fx_schemes.specs.Scheme.{Scheme, IsSchemeOf}
use Rattle.fx_schemes.proofs.RowLaws.{has_put, moved}
use Rattle.fx_schemes.proofs.SchemeLaws.{built, rows_solution, plain_piped, free}

abbrev timed : GroundRow → GroundRow
timed r = put (codes "_time") g_time r

abbrev joined : GroundRow → GroundRow → GroundRow → Line
joined r s q =
    piped (codes "left") r (codes "method" ∷ []) ((codes "right", g_stream s) ∷ (codes "as", of_rows r s (g_rec q)) ∷ []) [] (g_stream q)

abbrev pub times_stream : ℕ → Term
times_stream n = stream (fields_in ((codes "_time", Some simple.Time) ∷ [])) (row_variable n)

abbrev pub times : Scheme
times =
    plain_piped (codes "left") (codes "method" ∷ []) [] (free 3) (times_stream 0)
    (labelled (codes "right") (times_stream 1) ∷ labelled (codes "as") (sides_function ((codes "_time", Some simple.Time) ∷ []) (record_of 2)) ∷ [])
    (stream no_fields (row_variable 2))

pub times_law : IsSchemeOf OfTimes times
times_law = built _ _ (lit≤ tt) refl (lit≤ tt) tt (λ L. (
  λ h. (
    timed (h.0.row_of 0),
    has_put (codes "_time") (g_is g_time) (h.0.row_of 0),
    timed (h.0.row_of 1),
    has_put (codes "_time") (g_is g_time) (h.0.row_of 1),
    h.0.row_of 2,
    h.2,
  ),
  λ d. (
    rows_solution d.0 d.2 d.4,
    tt,
    d.5
        ∙ moved (codes "_time") (g_is g_time) d.0 (λ r. joined r d.2 d.4) d.1
        ∙ moved (codes "_time") (g_is g_time) d.2 (λ s. joined (timed d.0) s d.4) d.3,
  ),
))
