-- Windows: the schemes, and their lines.
use Rattle.std.proofs.Common.{◌≡◌, refl, sym, ap, subst, ◌∙◌, List, [], ◌∷◌, Option, None, Some, inl, inr, lit≤}
use Rattle.std.specs.Prelude.{codes, if◌then◌else◌}
use Rattle.fx_base.specs.Text.{same_text}
use Rattle.fx_types.specs.Term.{Label}
use Rattle.fx_types.specs.Ground.{Ground, GroundField, GroundRow, g_bool, g_int, g_time, g_span, g_absent, g_is, g_stream}
use Rattle.fx_types.proofs.Choices.{by_cases, chosen, passed}
use Rattle.fx_schemes.specs.declared.list.Builtin.TheVariants as b
use Rattle.fx_schemes.specs.declared.simple.Simple as simples
use Rattle.fx_schemes.specs.declared.simple.Simple.TheVariants as simple
use Rattle.fx_schemes.specs.declared.simple.Bound as kinds
use Rattle.fx_schemes.specs.declared.simple.Bound.TheVariants as bound
use Rattle.fx_schemes.specs.declared.fold.Fold.{Fold}
use Rattle.fx_schemes.specs.Line.{Line, replaced, put, take_out, HasBounds, from_tables}
use Rattle.fx_schemes.specs.Builtins.{IsLine, Counts, Sums, Extremes, Ends, Folds, OfWindows}
use Rattle.fx_schemes.specs.Plan.{Cell}
use Rattle.fx_schemes.specs.Scheme.{Scheme, IsSchemeOf}
use Rattle.fx_schemes.proofs.RowLaws.{same_row, has_put, moved}
use Rattle.fx_schemes.proofs.SchemeLaws.{built, built_by, solution, type_at, over_tables}

-- a row with times at the three labels of windows
abbrev bounded : GroundRow → GroundRow
bounded r = put (codes "_time") g_time (put (codes "_start") g_time (put (codes "_stop") g_time r))

bounded_same : {A : Type 0} (r : GroundRow) (F : GroundRow → A) → HasBounds r → F r ≡ F (bounded r)
bounded_same r F h =
    moved (codes "_stop") (g_is g_time) r F h.2
    ∙ moved (codes "_start") (g_is g_time) (put (codes "_stop") g_time r) F h.1
    ∙ moved (codes "_time") (g_is g_time) (put (codes "_start") g_time (put (codes "_stop") g_time r)) F h.0

-- and a column of values
valued_same : {A : Type 0} (c : Ground) (r : GroundRow) (F : GroundRow → A) → HasBounds r → r (codes "_value") ≡ g_is c
    → F r ≡ F (bounded (put (codes "_value") c r))
valued_same c r F h v = moved (codes "_value") (g_is c) r F v ∙ bounded_same (put (codes "_value") c r) F h

-- what is put at a label hides what was there
hidden_at : (x y : Label) (f g h : GroundField) (r : GroundRow) (l : Label)
    → replaced x f (replaced y g r) l ≡ replaced x f (replaced y g (replaced x h r)) l
hidden_at x y f g h r l =
    by_cases (same_text l x)
    (λ e. chosen (same_text l x) f (replaced y g r l) e ∙ sym (chosen (same_text l x) f (replaced y g (replaced x h r) l) e))
    (λ e. ap (λ z. if same_text l x then f else (if same_text l y then g else z)) (sym (passed (same_text l x) h (r l) e)))

hidden : (x y : Label) (f g h : GroundField) (r : GroundRow) → replaced x f (replaced y g r) ≡ replaced x f (replaced y g (replaced x h r))
hidden x y f g h r =
    same_row (replaced x f (replaced y g r)) (replaced x f (replaced y g (replaced x h r))) (λ l. hidden_at x y f g h r l)

abbrev bounds_and : List Cell → List Cell
bounds_and cs = (codes "_time", Some simple.Time) ∷ (codes "_start", Some simple.Time) ∷ (codes "_stop", Some simple.Time) ∷ cs

-- `window`

pub window_law : IsSchemeOf (IsLine b.Window []) (over_tables [] ((codes "every", simple.Span) ∷ []) ((codes "period", simple.Span) ∷ []) 1 bound.Free (bounds_and []) [])
unfolding IsLine
window_law = built _ _ (lit≤ tt) refl (lit≤ tt) tt (λ L. (
  λ h. (_, (refl, refl, refl), h.2),
  λ d. (
    solution g_int d.0,
    tt,
    d.2 ∙ bounded_same d.0 (λ r. from_tables r [] ((codes "every", g_span) ∷ []) ((codes "period", g_span) ∷ []) (g_stream r)) d.1,
  ),
))

-- `range`

abbrev moments : simples.Simple → simples.Simple → kinds.Bound → Scheme
moments start stop bounded_by =
    over_tables [] ((codes "start", start) ∷ []) ((codes "stop", stop) ∷ []) 2 bounded_by
    ((codes "_time", Some simple.Time) ∷ []) ((codes "_start", Some simple.Time) ∷ (codes "_stop", Some simple.Time) ∷ [])

abbrev ranged : Ground → Ground → GroundRow → Line
ranged start stop r =
    from_tables r [] ((codes "start", start) ∷ []) ((codes "stop", stop) ∷ []) (g_stream (put (codes "_start") g_time (put (codes "_stop") g_time r)))

pub range_law : IsSchemeOf (IsLine b.Range []) (moments (simple.Var 0) (simple.Var 1) bound.Moments)
unfolding IsLine
range_law =
    built_by _ _ (lit≤ tt) (solution g_time (λ l. g_absent)) (inl refl, (inl refl, tt)) (moments simple.Time simple.Time bound.Free).type refl (lit≤ tt) refl (λ L. (
      λ h. (_, has_put (codes "_time") (g_is g_time) (h.0.row_of 0), h.0.type_of 0, h.1.0, h.0.type_of 1, h.1.1.0, h.2),
      λ d. (
        record { type_of = type_at d.2 d.4; field_of = λ n. g_absent; row_of = λ n. d.0 },
        (d.3, (d.5, tt)),
        d.6 ∙ moved (codes "_time") (g_is g_time) d.0 (ranged d.2 d.4) d.1,
      ),
    ))

-- `aggregateWindow`

pub no_windows : (o : Option Fold) (L : Line) → o ≡ None → OfWindows (Folds o) L → ⊥
no_windows o L e h = (subst (λ z. OfWindows (Folds z) L) e h).3

abbrev of_windows : kinds.Bound → simples.Simple → List Cell → Scheme
of_windows b s made =
    over_tables (codes "fn" ∷ []) ((codes "every", simple.Span) ∷ []) ((codes "createEmpty", simple.Bool) ∷ []) 1 b
    (bounds_and ((codes "_value", Some s) ∷ [])) ((codes "_time", Some simple.Time) ∷ made)

abbrev to_row : GroundRow → GroundRow → Line
to_row r q = from_tables r (codes "fn" ∷ []) ((codes "every", g_span) ∷ []) ((codes "createEmpty", g_bool) ∷ []) (g_stream q)

abbrev timed : GroundRow → GroundRow
timed q = put (codes "_time") g_time q

-- integers at _value, without a time and then with one
abbrev counted : GroundRow → GroundRow
counted r = put (codes "_value") g_int (take_out (codes "_time") r)

retimed : (r : GroundRow) → timed (put (codes "_value") g_int r) ≡ timed (counted r)
retimed r = hidden (codes "_time") (codes "_value") (g_is g_time) (g_is g_int) g_absent r

pub counted_law : IsSchemeOf (OfWindows Counts) (of_windows bound.Column (simple.Var 0) ((codes "_value", Some simple.Int) ∷ []))
counted_law = built _ _ (lit≤ tt) refl (lit≤ tt) (inr (inl refl), tt) (λ L. (
  λ h.
      let r : GroundRow = bounded (put (codes "_value") (h.0.type_of 0) (h.0.row_of 0)) in
      (r, counted r, (refl, refl, refl), (h.0.type_of 0, h.1.0, refl, refl), h.2 ∙ ap (to_row r) (retimed r)),
  λ d. (
    solution d.3.0 d.0,
    (d.3.1, tt),
    d.4
        ∙ ap (λ q. to_row d.0 (timed q)) d.3.3
        ∙ ap (to_row d.0) (sym (retimed d.0))
        ∙ valued_same d.3.0 d.0 (λ r. to_row r (timed (put (codes "_value") g_int r))) d.2 d.3.2,
  ),
))

pub summed_law : IsSchemeOf (OfWindows Sums) (of_windows bound.Free simple.Int ((codes "_value", Some simple.Int) ∷ []))
summed_law = built _ _ (lit≤ tt) refl (lit≤ tt) tt (λ L. (
  λ h.
      let r : GroundRow = bounded (put (codes "_value") g_int (h.0.row_of 0)) in
      (r, counted r, (refl, refl, refl), (refl, refl), h.2 ∙ ap (to_row r) (retimed r)),
  λ d. (
    solution g_int d.0,
    tt,
    d.4
        ∙ ap (λ q. to_row d.0 (timed q)) d.3.1
        ∙ ap (to_row d.0) (sym (retimed d.0))
        ∙ valued_same g_int d.0 (λ r. to_row r (timed (put (codes "_value") g_int r))) d.2 d.3.0,
  ),
))

pub extremes_law : IsSchemeOf (OfWindows Extremes) (of_windows bound.Ordered (simple.Var 0) [])
extremes_law = built _ _ (lit≤ tt) refl (lit≤ tt) (inl refl, tt) (λ L. (
  λ h. (_, _, (refl, refl, refl), (h.0.type_of 0, h.1.0, refl, refl), h.2),
  λ d. (
    solution d.3.0 d.0,
    (d.3.1, tt),
    d.4 ∙ ap (λ q. to_row d.0 (timed q)) d.3.3 ∙ valued_same d.3.0 d.0 (λ r. to_row r (timed r)) d.2 d.3.2,
  ),
))

pub ends_law : IsSchemeOf (OfWindows Ends) (of_windows bound.Column (simple.Var 0) [])
ends_law = built _ _ (lit≤ tt) refl (lit≤ tt) (inr (inl refl), tt) (λ L. (
  λ h. (_, _, (refl, refl, refl), (h.0.type_of 0, h.1.0, refl, refl), h.2),
  λ d. (
    solution d.3.0 d.0,
    (d.3.1, tt),
    d.4 ∙ ap (λ q. to_row d.0 (timed q)) d.3.3 ∙ valued_same d.3.0 d.0 (λ r. to_row r (timed r)) d.2 d.3.2,
  ),
))
