-- `rename`: its scheme, and its lines.
use Rattle.std.proofs.Common.{◌≡◌, refl, sym, ap, ◌∙◌, ℕ, ◌+◌, ◌==◌, Bool, true, false, ◌&&◌, List, [], ◌∷◌, ◌++◌, length, lit≤, arith, ◌≤◌}
use Rattle.std.specs.Prelude.{codes}
use Rattle.std.specs.Cmp.Lexicographic.{nat_list_eq_equiv}
use Rattle.std.proofs.lemmas.Bool.{and_parts, eqb-true, and_from}
use Rattle.fx_base.specs.Text.{same_text}
use Rattle.fx_types.specs.Term.{Label}
use Rattle.fx_types.specs.Ground.{GroundField, GroundRow, g_int, g_is, g_stream, is_plain, listed}
use Rattle.fx_types.specs.Instance.{Solution, ground_field, plainest}
use Rattle.fx_types.specs.Numbers.{numbers_fields}
use Rattle.fx_types.proofs.Choices.{passed, neither}
use Rattle.fx_schemes.specs.declared.simple.Bound.TheVariants as bound
use Rattle.fx_schemes.specs.Line.{Line, replaced, without, named, from_tables}
use Rattle.fx_schemes.specs.Builtins.{OfRename, differ, are_names}
use Rattle.fx_schemes.specs.Plan.{Cell, columns_from, absents, fields_in, cell_field}
use Rattle.fx_schemes.specs.Scheme.{Scheme, IsSchemeOf}
use Rattle.fx_schemes.proofs.ListLaws.{celled, AllAgree, cells_same, list_solution, agreed, all_present, cleared_is, columns_fit, columns_below, columns_tidy, absents_below, absents_tidy}
use Rattle.fx_schemes.proofs.RowLaws.{has_put, not_first, not_more}
use Rattle.fx_schemes.proofs.SchemeLaws.{built, over_tables}
use Rattle.fx_schemes.proofs.Sizes.{tidy_fields}

-- two lists of cells, one over the other
pub celled_append : (s : Solution) (a b : List Cell) (r : GroundRow) → celled s (a ++ b) r ≡ celled s a (celled s b r)
celled_append s [] b r = refl
celled_append s (c ∷ a) b r = ap (replaced c.0 (ground_field s (cell_field c.1))) (celled_append s a b r)

pub below_append : (n : ℕ) (a b : List Cell) → numbers_fields (fields_in a) ≤ n → numbers_fields (fields_in b) ≤ n → numbers_fields (fields_in (a ++ b)) ≤ n
below_append n [] b e h = h
below_append n (c ∷ a) b e h = let rest : numbers_fields (fields_in (a ++ b)) ≤ n = below_append n a b (omega arith) h in omega arith

abbrev plain_cell : Cell → Bool
plain_cell c = is_plain (ground_field plainest (cell_field c.1))

pub tidy_append : (a b : List Cell) → tidy_fields (fields_in a) ≡ true → tidy_fields (fields_in b) ≡ true → tidy_fields (fields_in (a ++ b)) ≡ true
tidy_append [] b e h = h
tidy_append (c ∷ a) b e h =
    let parts = and_parts (plain_cell c) (tidy_fields (fields_in a)) e in
    and_from (plain_cell c) (tidy_fields (fields_in (a ++ b))) parts.0 (tidy_append a b parts.1 h)

-- columns of labels that differ

agree_off : (s : Solution) (xs : List Label) (k : ℕ) (x : Label) (f : GroundField) (r : GroundRow) → listed x xs ≡ false
    → AllAgree s (columns_from k xs) r → AllAgree s (columns_from k xs) (replaced x f r)
agree_off s [] k x f r e h = tt
agree_off s (y ∷ ys) k x f r e h = (
  passed (same_text y x) f (r y) (nat_list_eq_equiv.symm y x ∙ (neither (same_text x y) (listed x ys) e).0) ∙ h.0,
  agree_off s ys (k + 1) x f r (neither (same_text x y) (listed x ys) e).1 h.1,
)

self_agree : (s : Solution) (xs : List Label) (k : ℕ) (r : GroundRow) → differ xs ≡ true → AllAgree s (columns_from k xs) (celled s (columns_from k xs) r)
self_agree s [] k r e = tt
self_agree s (x ∷ xs) k r e = (
  has_put x (g_is (s.type_of k)) (celled s (columns_from (k + 1) xs) r),
  agree_off s xs (k + 1) x (g_is (s.type_of k)) (celled s (columns_from (k + 1) xs) r) (not_first (listed x xs) (differ xs) e)
      (self_agree s xs (k + 1) r (not_more (listed x xs) (differ xs) e)),
)

named_is : (s : Solution) (olds news : List Label) (k : ℕ) (r q : GroundRow) → AllAgree s (columns_from k olds) r → length olds ≡ length news
    → celled s (columns_from k news) q ≡ named olds news r q
named_is s [] [] k r q h e = refl
named_is s [] (n ∷ ns) k r q h e = absurd (omega (arith, e))
named_is s (x ∷ xs) [] k r q h e = absurd (omega (arith, e))
named_is s (x ∷ xs) (n ∷ ns) k r q h e =
    ap (λ f. replaced n f (celled s (columns_from (k + 1) ns) q)) (sym h.0)
    ∙ ap (replaced n (r x)) (named_is s xs ns (k + 1) r q h.1 (omega (arith, e)))

-- the scheme

abbrev made : List Label → List Label → List Cell
made olds news = columns_from 1 news ++ absents olds

abbrev pub renames : List Label → List Label → Scheme
renames olds news = over_tables (codes "columns" ∷ []) [] [] (length olds + 1) bound.Free (columns_from 1 olds) (made olds news)

abbrev by_columns : GroundRow → GroundRow → Line
by_columns r q = from_tables r (codes "columns" ∷ []) [] [] (g_stream q)

abbrev renamed : List Label → List Label → GroundRow → GroundRow
renamed olds news r = named olds news r (without olds r)

made_is : (s : Solution) (olds news : List Label) (r : GroundRow) → length olds ≡ length news → AllAgree s (columns_from 1 olds) (celled s (columns_from 1 olds) r)
    → celled s (made olds news ++ columns_from 1 olds) r ≡ renamed olds news (celled s (columns_from 1 olds) r)
made_is s olds news r len h =
    let q : GroundRow = celled s (columns_from 1 olds) r in
    celled_append s (made olds news) (columns_from 1 olds) r
    ∙ celled_append s (columns_from 1 news) (absents olds) q
    ∙ ap (celled s (columns_from 1 news)) (cleared_is s olds q)
    ∙ named_is s olds news 1 q (without olds q) h len

made_below : (olds news : List Label) → length olds ≡ length news → numbers_fields (fields_in (made olds news ++ columns_from 1 olds)) ≤ length olds + 1
made_below olds news len =
    below_append (length olds + 1) (made olds news) (columns_from 1 olds)
    (below_append (length olds + 1) (columns_from 1 news) (absents olds) (columns_below news 1 (length olds + 1) (omega (arith, len))) (absents_below olds (length olds + 1)))
    (columns_fit olds)

made_tidy : (olds news : List Label) → tidy_fields (fields_in (made olds news ++ columns_from 1 olds)) ≡ true
made_tidy olds news =
    tidy_append (made olds news) (columns_from 1 olds)
    (tidy_append (columns_from 1 news) (absents olds) (columns_tidy news 1) (absents_tidy olds))
    (columns_tidy olds 1)

pub rename_law : (olds news : List Label) → are_names olds news ≡ true → IsSchemeOf (OfRename olds news) (renames olds news)
rename_law olds news ok =
    let parts = and_parts (length olds == length news) (differ olds && differ news) ok in
    let len : length olds ≡ length news = eqb-true (length olds) (length news) parts.0 in
    let apart : differ olds ≡ true = (and_parts (differ olds) (differ news) parts.1).0 in
    built _ _ (omega (arith, columns_fit olds, made_below olds news len)) (rw (columns_tidy olds 1, made_tidy olds news) refl) (lit≤ tt) tt (λ L. (
      λ h.
          let r : GroundRow = celled h.0 (columns_from 1 olds) (h.0.row_of 0) in (
            r,
            all_present h.0 olds 1 (h.0.row_of 0),
            h.2 ∙ ap (by_columns r) (made_is h.0 olds news (h.0.row_of 0) len (self_agree h.0 olds 1 (h.0.row_of 0) apart)),
          ),
      λ d.
          let s : Solution = list_solution g_int olds d.0 in
          let same : d.0 ≡ celled s (columns_from 1 olds) d.0 = cells_same s (columns_from 1 olds) d.0 (agreed g_int olds d.0 d.1) in
          let agree : AllAgree s (columns_from 1 olds) (celled s (columns_from 1 olds) d.0) = self_agree s olds 1 d.0 apart in (
            s,
            tt,
            d.2
                ∙ ap (λ r. by_columns r (renamed olds news r)) same
                ∙ ap (by_columns (celled s (columns_from 1 olds) d.0)) (sym (made_is s olds news d.0 len agree)),
          ),
    ))

pub same_names : (a b c d : List Label) → a ≡ b → c ≡ d → are_names a c ≡ are_names b d
same_names a b c d e h = ap (λ q. are_names q c) e ∙ ap (are_names b) h
