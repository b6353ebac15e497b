-- `pivot`: its scheme, and its lines.
use Rattle.std.proofs.Common.{◌≡◌, refl, sym, ap, subst, ◌∙◌, ℕ, ◌+◌, true, false, ◌&&◌, List, [], ◌∷◌, ◌++◌, length, Some, inl, inr, lit≤, ◌≤◌, arith}
use Rattle.std.specs.Prelude.{codes, not}
use Rattle.std.proofs.lemmas.Bool.{and_parts, not-true}
use mathlib.Core.Bool.{true≢false}
use Rattle.fx_base.specs.Text.{same_text}
use Rattle.fx_types.specs.Term.{Label}
use Rattle.fx_types.specs.Ground.{Ground, GroundRow, g_text, g_is, g_stream, listed}
use Rattle.fx_types.specs.Instance.{Solution}
use Rattle.fx_types.specs.Numbers.{numbers_fields}
use Rattle.fx_types.proofs.Choices.{by_cases, chosen, passed, neither, either_also, never}
use Rattle.fx_types.proofs.RowSums.{same_is, same_itself}
use Rattle.fx_schemes.specs.declared.simple.Simple.TheVariants as simple
use Rattle.fx_schemes.specs.declared.simple.Bound.TheVariants as bound
use Rattle.fx_schemes.specs.Line.{Line, put, EachIs, kept, from_tables}
use Rattle.fx_schemes.specs.Builtins.{OfPivot, apart, are_apart}
use Rattle.fx_schemes.specs.Plan.{Cell, columns_from, all_texts, fields_in}
use Rattle.fx_schemes.specs.Scheme.{Scheme, IsSchemeOf}
use Rattle.fx_schemes.proofs.ListLaws.{celled, AllAgree, cells_same, list_solution, agreed, present_at, has_all, kept_is, columns_fit, columns_tidy}
use Rattle.fx_schemes.proofs.NameLaws.{celled_append, below_append, tidy_append}
use Rattle.fx_schemes.proofs.RowLaws.{has_put, not_first, not_more}
use Rattle.fx_schemes.proofs.SchemeLaws.{built, closed_tables}
use Rattle.fx_schemes.proofs.Sizes.{tidy_fields}

-- labels

apart_off : (xs ys : List Label) → apart xs ys ≡ true → (l : Label) → listed l ys ≡ true → listed l xs ≡ false
apart_off [] ys e l h = refl
apart_off (x ∷ xs) ys e l h =
    by_cases (same_text l x)
    (λ q. never (listed x ys) (subst (λ z. listed z ys ≡ true) (same_is l x q) h) (not_first (listed x ys) (apart xs ys) e))
    (λ q. passed (same_text l x) true (listed l xs) q ∙ apart_off xs ys (not_more (listed x ys) (apart xs ys) e) l h)

off_columns : (s : Solution) (xs : List Label) (k : ℕ) (r : GroundRow) (l : Label) → listed l xs ≡ false → celled s (columns_from k xs) r l ≡ r l
off_columns s [] k r l e = refl
off_columns s (x ∷ xs) k r l e =
    passed (same_text l x) (g_is (s.type_of k)) (celled s (columns_from (k + 1) xs) r l) (neither (same_text l x) (listed l xs) e).0
    ∙ off_columns s xs (k + 1) r l (neither (same_text l x) (listed l xs) e).1

off_texts : (s : Solution) (ys : List Label) (r : GroundRow) (l : Label) → listed l ys ≡ false → celled s (all_texts ys) r l ≡ r l
off_texts s [] r l e = refl
off_texts s (y ∷ ys) r l e =
    passed (same_text l y) (g_is g_text) (celled s (all_texts ys) r l) (neither (same_text l y) (listed l ys) e).0
    ∙ off_texts s ys r l (neither (same_text l y) (listed l ys) e).1

at_texts : (s : Solution) (ys : List Label) (r : GroundRow) (l : Label) → listed l ys ≡ true → celled s (all_texts ys) r l ≡ g_is g_text
at_texts s [] r l e = absurd (true≢false (sym e))
at_texts s (y ∷ ys) r l e =
    by_cases (same_text l y)
    (λ q. chosen (same_text l y) (g_is g_text) (celled s (all_texts ys) r l) q)
    (λ q. passed (same_text l y) (g_is g_text) (celled s (all_texts ys) r l) q
    ∙ at_texts s ys r l (sym (passed (same_text l y) true (listed l ys) q) ∙ e))

each_is : (r : GroundRow) (ys : List Label) (t : Ground) → ((l : Label) → listed l ys ≡ true → r l ≡ g_is t) → EachIs r ys t
each_is r [] t h = tt
each_is r (y ∷ ys) t h = (
  h y (chosen (same_text y y) true (listed y ys) (same_itself y)),
  each_is r ys t (λ l e. h l (either_also (same_text l y) (listed l ys) e)),
)

texts_agree : (s : Solution) (ys : List Label) (r : GroundRow) → EachIs r ys g_text → AllAgree s (all_texts ys) r
texts_agree s [] r h = tt
texts_agree s (y ∷ ys) r h = (h.0, texts_agree s ys r h.1)

agree_append : (s : Solution) (a b : List Cell) (r : GroundRow) → AllAgree s a r → AllAgree s b r → AllAgree s (a ++ b) r
agree_append s [] b r h k = k
agree_append s (c ∷ a) b r h k = (h.0, agree_append s a b r h.1 k)

-- the scheme

abbrev others : List Label → Label → List Cell
others ys z = all_texts ys ++ (z, Some (simple.Var 0)) ∷ []

abbrev asked : List Label → List Label → Label → List Cell
asked xs ys z = columns_from 1 xs ++ others ys z

abbrev pub pivot_labels : List Label
pivot_labels = codes "rowKey" ∷ codes "columnKey" ∷ codes "valueColumn" ∷ []

abbrev pub pivots : List Label → List Label → Label → Scheme
pivots xs ys z = closed_tables pivot_labels [] [] (length xs + 1) bound.Column (asked xs ys z) (columns_from 1 xs) (Some (simple.Var 0))

texts_below : (ys : List Label) (n : ℕ) → numbers_fields (fields_in (all_texts ys)) ≤ n
texts_below [] n = omega arith
texts_below (y ∷ ys) n = let rest : numbers_fields (fields_in (all_texts ys)) ≤ n = texts_below ys n in omega arith

texts_tidy : (ys : List Label) → tidy_fields (fields_in (all_texts ys)) ≡ true
texts_tidy [] = refl
texts_tidy (y ∷ ys) = texts_tidy ys

asked_below : (xs ys : List Label) (z : Label) → numbers_fields (fields_in (asked xs ys z)) ≤ length xs + 1
asked_below xs ys z =
    below_append (length xs + 1) (columns_from 1 xs) (others ys z) (columns_fit xs)
    (below_append (length xs + 1) (all_texts ys) ((z, Some (simple.Var 0)) ∷ []) (texts_below ys (length xs + 1)) (omega arith))

asked_tidy : (xs ys : List Label) (z : Label) → tidy_fields (fields_in (asked xs ys z)) ≡ true
asked_tidy xs ys z =
    tidy_append (columns_from 1 xs) (others ys z) (columns_tidy xs 1) (tidy_append (all_texts ys) ((z, Some (simple.Var 0)) ∷ []) (texts_tidy ys) refl)

abbrev to_row : GroundRow → GroundRow → Line
to_row r q = from_tables r pivot_labels [] [] (g_stream q)

-- the input's row: the keys, over the texts, over the value
abbrev layers : Solution → List Label → List Label → Label → GroundRow → GroundRow
layers s xs ys z r = celled s (columns_from 1 xs) (celled s (all_texts ys) (put z (s.type_of 0) r))

layered : (s : Solution) (xs ys : List Label) (z : Label) (r : GroundRow) → celled s (asked xs ys z) r ≡ layers s xs ys z r
layered s xs ys z r =
    celled_append s (columns_from 1 xs) (others ys z) r
    ∙ ap (celled s (columns_from 1 xs)) (celled_append s (all_texts ys) ((z, Some (simple.Var 0)) ∷ []) r)

pub pivot_law : (xs ys : List Label) (z : Label) → are_apart xs ys z ≡ true → IsSchemeOf (OfPivot xs ys z) (pivots xs ys z)
pivot_law xs ys z ok =
    let parts = and_parts (apart xs ys) (not (listed z xs) && not (listed z ys)) ok in
    let lone = and_parts (not (listed z xs)) (not (listed z ys)) parts.1 in
    let off_keys : listed z xs ≡ false = not-true (listed z xs) lone.0 in
    let off_names : listed z ys ≡ false = not-true (listed z ys) lone.1 in
    built _ _ (omega (arith, asked_below xs ys z, columns_fit xs)) (rw (asked_tidy xs ys z, columns_tidy xs 1) refl) (lit≤ tt)
    (inr (inl refl), tt) (λ L. (
      λ h.
          let s : Solution = h.0 in
          let value : GroundRow = put z (s.type_of 0) (s.row_of 0) in
          let texts : GroundRow = celled s (all_texts ys) value in
          let r : GroundRow = celled s (columns_from 1 xs) texts in (
            r,
            has_all r xs (present_at s xs 1 texts),
            each_is r ys g_text (λ l e. off_columns s xs 1 texts l (apart_off xs ys parts.0 l e) ∙ at_texts s ys value l e),
            s.type_of 0,
            h.1.0,
            off_columns s xs 1 texts z off_keys ∙ off_texts s ys value z off_names ∙ has_put z (g_is (s.type_of 0)) (s.row_of 0),
            h.2
                ∙ ap (λ q. to_row q (celled s (columns_from 1 xs) (λ l. g_is (s.type_of 0)))) (layered s xs ys z (s.row_of 0))
                ∙ ap (to_row r) (kept_is s xs 1 texts (g_is (s.type_of 0))),
          ),
      λ d.
          let s : Solution = list_solution d.3 xs d.0 in
          let keys : AllAgree s (columns_from 1 xs) d.0 = agreed d.3 xs d.0 d.1 in
          let same : d.0 ≡ celled s (asked xs ys z) d.0 =
          cells_same s (asked xs ys z) d.0
          (agree_append s (columns_from 1 xs) (others ys z) d.0 keys
          (agree_append s (all_texts ys) ((z, Some (simple.Var 0)) ∷ []) d.0 (texts_agree s ys d.0 d.2) (d.5, tt))) in (
            s,
            (d.4, tt),
            d.6
                ∙ ap (λ q. to_row d.0 (kept xs q (g_is d.3))) (cells_same s (columns_from 1 xs) d.0 keys)
                ∙ ap (to_row d.0) (sym (kept_is s xs 1 d.0 (g_is d.3)))
                ∙ ap (λ q. to_row q (celled s (columns_from 1 xs) (λ l. g_is d.3))) same,
          ),
    ))

pub same_apart : (a b c d : List Label) (y z : Label) → a ≡ b → c ≡ d → y ≡ z → are_apart a c y ≡ are_apart b d z
same_apart a b c d y z e h k = ap (λ q. are_apart q c y) e ∙ ap (λ q. are_apart b q y) h ∙ ap (are_apart b d) k
