-- Rows with listed columns: the schemes of what works on lists of columns, and their lines.
use Rattle.std.proofs.Common.{◌≡◌, refl, sym, ap, ◌∙◌, ℕ, zero, suc, ◌+◌, ◌≤◌, Bool, true, false, List, [], ◌∷◌, ◌++◌, length, get_or, None, add-zero, lit≤, arith}
use Rattle.std.specs.Prelude.{codes, if◌then◌else◌}
use mathlib.Core.Bool.{true≢false}
use Rattle.fx_base.specs.Text.{same_text}
use Rattle.fx_types.specs.Term.{Label}
use Rattle.fx_types.specs.Ground.{Ground, GroundField, GroundRow, g_bool, g_int, g_absent, g_is, g_stream, listed}
use Rattle.fx_types.specs.Instance.{Solution, ground_field, ground_fields}
use Rattle.fx_types.specs.Numbers.{numbers_fields}
use Rattle.fx_types.proofs.Choices.{by_cases, chosen, passed, either_also}
use Rattle.fx_types.proofs.RowSums.{same_itself}
use Rattle.fx_schemes.specs.declared.simple.Simple.TheVariants as simple
use Rattle.fx_schemes.specs.declared.simple.Bound.TheVariants as bound
use Rattle.fx_schemes.specs.Line.{Line, replaced, HasAll, kept, without, from_tables}
use Rattle.fx_schemes.specs.Builtins.{OfGroup, OfSort, OfKeep, OfDrop}
use Rattle.fx_schemes.specs.Plan.{Cell, Param, cell_field, fields_in, columns_from, absents}
use Rattle.fx_schemes.specs.Scheme.{Scheme, IsSchemeOf}
use Rattle.fx_schemes.proofs.RowLaws.{same_row, put_same}
use Rattle.fx_schemes.proofs.SchemeLaws.{built, solution, over_tables, closed_tables}
use Rattle.fx_schemes.proofs.Sizes.{tidy_fields}

-- the row of the cells over another
abbrev pub celled : Solution → List Cell → GroundRow → GroundRow
celled s cs r = ground_fields s (fields_in cs) r

-- each cell has what R has at its label
abbrev pub AllAgree : Solution → List Cell → GroundRow → Type 0
AllAgree s [] r = Unit {0}
AllAgree s (c ∷ cs) r = (r c.0 ≡ ground_field s (cell_field c.1)) × AllAgree s cs r

pub cells_same : (s : Solution) (cs : List Cell) (r : GroundRow) → AllAgree s cs r → r ≡ celled s cs r
cells_same s [] r h = refl
cells_same s (c ∷ cs) r h =
    put_same c.0 (ground_field s (cell_field c.1)) r h.0 ∙ ap (replaced c.0 (ground_field s (cell_field c.1))) (cells_same s cs r h.1)

-- columns of variables of their own

abbrev pub type_in : GroundField → Ground
type_in g_absent = g_int
type_in (g_is t) = t

-- variable 0 is c, and the others are what R has at the labels
abbrev pub types_at : Ground → List Label → GroundRow → ℕ → Ground
types_at c xs r zero = c
types_at c xs r (suc n) = type_in (r (get_or xs n []))

abbrev pub list_solution : Ground → List Label → GroundRow → Solution
list_solution c xs r = record { type_of = types_at c xs r; field_of = λ n. g_absent; row_of = λ n. r }

columns_agree : (s : Solution) (xs : List Label) (k : ℕ) (r : GroundRow) → ((i : ℕ) → s.type_of (k + i) ≡ type_in (r (get_or xs i [])))
    → HasAll r xs → AllAgree s (columns_from k xs) r
columns_agree s [] k r e h = tt
columns_agree s (x ∷ xs) k r e h =
    let here : s.type_of k ≡ type_in (r x) = ap s.type_of (sym (add-zero k)) ∙ e zero in
    let next : (i : ℕ) → (k + 1) + i ≡ k + suc i = λ i. omega arith in (
      h.0.1 ∙ ap g_is (sym (here ∙ ap type_in h.0.1)),
      columns_agree s xs (k + 1) r (λ i. ap s.type_of (next i) ∙ e (suc i)) h.1,
    )

one_more : (i : ℕ) → 1 + i ≡ suc i
one_more i = omega arith

pub agreed : (c : Ground) (xs : List Label) (r : GroundRow) → HasAll r xs → AllAgree (list_solution c xs r) (columns_from 1 xs) r
agreed c xs r h = columns_agree (list_solution c xs r) xs 1 r (λ i. ap (types_at c xs r) (one_more i)) h

listed_more : (b c : Bool) → (if b then true else c) ≡ true → b ≡ false → c ≡ true
listed_more true c e f = absurd (true≢false f)
listed_more false c e f = e

pub present_at : (s : Solution) (xs : List Label) (k : ℕ) (r : GroundRow) (l : Label) → listed l xs ≡ true
    → (t : Ground) × (celled s (columns_from k xs) r l ≡ g_is t)
present_at s [] k r l e = absurd (true≢false (sym e))
present_at s (x ∷ xs) k r l e =
    by_cases (same_text l x)
    (λ q. (s.type_of k, chosen (same_text l x) (g_is (s.type_of k)) (celled s (columns_from (k + 1) xs) r l) q))
    (λ q. let rest = present_at s xs (k + 1) r l (listed_more (same_text l x) (listed l xs) e q) in
    (rest.0, passed (same_text l x) (g_is (s.type_of k)) (celled s (columns_from (k + 1) xs) r l) q ∙ rest.1))

pub has_all : (r : GroundRow) (ys : List Label) → ((l : Label) → listed l ys ≡ true → (t : Ground) × (r l ≡ g_is t)) → HasAll r ys
has_all r [] h = tt
has_all r (y ∷ ys) h = (
  h y (chosen (same_text y y) true (listed y ys) (same_itself y)),
  has_all r ys (λ l e. h l (either_also (same_text l y) (listed l ys) e)),
)

pub all_present : (s : Solution) (xs : List Label) (k : ℕ) (r : GroundRow) → HasAll (celled s (columns_from k xs) r) xs
all_present s xs k r = has_all (celled s (columns_from k xs) r) xs (present_at s xs k r)

-- the columns alone

kept_step : (b c : Bool) (t g h f : GroundField) → g ≡ (if c then h else f)
    → (if b then t else g) ≡ (if (if b then true else c) then (if b then t else h) else f)
kept_step true c t g h f e = refl
kept_step false c t g h f e = e

kept_at : (s : Solution) (xs : List Label) (k : ℕ) (r : GroundRow) (f : GroundField) (l : Label)
    → celled s (columns_from k xs) (λ z. f) l ≡ kept xs (celled s (columns_from k xs) r) f l
kept_at s [] k r f l = refl
kept_at s (x ∷ xs) k r f l =
    kept_step (same_text l x) (listed l xs) (g_is (s.type_of k)) (celled s (columns_from (k + 1) xs) (λ z. f) l) (celled s (columns_from (k + 1) xs) r l) f
    (kept_at s xs (k + 1) r f l)

pub kept_is : (s : Solution) (xs : List Label) (k : ℕ) (r : GroundRow) (f : GroundField)
    → celled s (columns_from k xs) (λ z. f) ≡ kept xs (celled s (columns_from k xs) r) f
kept_is s xs k r f = same_row (celled s (columns_from k xs) (λ z. f)) (kept xs (celled s (columns_from k xs) r) f) (kept_at s xs k r f)

-- labels without columns

cleared_step : (b c : Bool) (g h : GroundField) → g ≡ (if c then g_absent else h)
    → (if b then g_absent else g) ≡ (if (if b then true else c) then g_absent else h)
cleared_step true c g h e = refl
cleared_step false c g h e = e

cleared_at : (s : Solution) (xs : List Label) (r : GroundRow) (l : Label) → celled s (absents xs) r l ≡ without xs r l
cleared_at s [] r l = refl
cleared_at s (x ∷ xs) r l = cleared_step (same_text l x) (listed l xs) (celled s (absents xs) r l) (r l) (cleared_at s xs r l)

pub cleared_is : (s : Solution) (xs : List Label) (r : GroundRow) → celled s (absents xs) r ≡ without xs r
cleared_is s xs r = same_row (celled s (absents xs) r) (without xs r) (cleared_at s xs r)

-- numbers and nodes

pub columns_below : (xs : List Label) (k n : ℕ) → k + length xs ≤ n → numbers_fields (fields_in (columns_from k xs)) ≤ n
columns_below [] k n le = omega arith
columns_below (x ∷ xs) k n le =
    let rest : numbers_fields (fields_in (columns_from (k + 1) xs)) ≤ n = columns_below xs (k + 1) n (omega arith) in
    omega arith

pub columns_tidy : (xs : List Label) (k : ℕ) → tidy_fields (fields_in (columns_from k xs)) ≡ true
columns_tidy [] k = refl
columns_tidy (x ∷ xs) k = columns_tidy xs (k + 1)

pub absents_below : (xs : List Label) (n : ℕ) → numbers_fields (fields_in (absents xs)) ≤ n
absents_below [] n = omega arith
absents_below (x ∷ xs) n = let rest : numbers_fields (fields_in (absents xs)) ≤ n = absents_below xs n in omega arith

pub absents_tidy : (xs : List Label) → tidy_fields (fields_in (absents xs)) ≡ true
absents_tidy [] = refl
absents_tidy (x ∷ xs) = absents_tidy xs

pub columns_fit : (xs : List Label) → numbers_fields (fields_in (columns_from 1 xs)) ≤ length xs + 1
columns_fit xs = columns_below xs 1 (length xs + 1) (omega arith)

-- `group` and `sort`

abbrev pub asks : List Label → List Param → List Label → Scheme
asks ls os xs = over_tables ls [] os (length xs + 1) bound.Free (columns_from 1 xs) []

abbrev pub group_labels : List Label
group_labels = codes "columns" ∷ codes "mode" ∷ []

pub group_law : (xs : List Label) → IsSchemeOf (OfGroup xs) (asks group_labels [] xs)
group_law xs = built _ _ (omega (arith, columns_fit xs)) (rw (columns_tidy xs 1) refl) (lit≤ tt) tt (λ L. (
  λ h. (celled h.0 (columns_from 1 xs) (h.0.row_of 0), all_present h.0 xs 1 (h.0.row_of 0), h.2),
  λ d. (
    list_solution g_int xs d.0,
    tt,
    d.2 ∙ ap (λ r. from_tables r group_labels [] [] (g_stream r)) (cells_same (list_solution g_int xs d.0) (columns_from 1 xs) d.0 (agreed g_int xs d.0 d.1)),
  ),
))

abbrev pub descending : List Param
descending = (codes "desc", simple.Bool) ∷ []

pub sort_law : (xs : List Label) → IsSchemeOf (OfSort xs) (asks (codes "columns" ∷ []) descending xs)
sort_law xs = built _ _ (omega (arith, columns_fit xs)) (rw (columns_tidy xs 1) refl) (lit≤ tt) tt (λ L. (
  λ h. (celled h.0 (columns_from 1 xs) (h.0.row_of 0), all_present h.0 xs 1 (h.0.row_of 0), h.2),
  λ d. (
    list_solution g_int xs d.0,
    tt,
    d.2
        ∙ ap (λ r. from_tables r (codes "columns" ∷ []) [] ((codes "desc", g_bool) ∷ []) (g_stream r))
        (cells_same (list_solution g_int xs d.0) (columns_from 1 xs) d.0 (agreed g_int xs d.0 d.1)),
  ),
))

-- `keep` and `drop`

abbrev by_columns : GroundRow → GroundRow → Line
by_columns r q = from_tables r (codes "columns" ∷ []) [] [] (g_stream q)

abbrev pub keeps : List Label → Scheme
keeps xs = closed_tables (codes "columns" ∷ []) [] [] (length xs + 1) bound.Free (columns_from 1 xs) (columns_from 1 xs) None

pub keep_law : (xs : List Label) → IsSchemeOf (OfKeep xs) (keeps xs)
keep_law xs = built _ _ (omega (arith, columns_fit xs)) (rw (columns_tidy xs 1) refl) (lit≤ tt) tt (λ L. (
  λ h.
      let r : GroundRow = celled h.0 (columns_from 1 xs) (h.0.row_of 0) in
      (r, all_present h.0 xs 1 (h.0.row_of 0), h.2 ∙ ap (by_columns r) (kept_is h.0 xs 1 (h.0.row_of 0) g_absent)),
  λ d.
      let s : Solution = list_solution g_int xs d.0 in
      let same : d.0 ≡ celled s (columns_from 1 xs) d.0 = cells_same s (columns_from 1 xs) d.0 (agreed g_int xs d.0 d.1) in (
        s,
        tt,
        d.2
            ∙ ap (λ r. by_columns r (kept xs r g_absent)) same
            ∙ ap (by_columns (celled s (columns_from 1 xs) d.0)) (sym (kept_is s xs 1 d.0 g_absent)),
      ),
))

abbrev pub drops : List Label → Scheme
drops xs = over_tables (codes "columns" ∷ []) [] [] 1 bound.Free [] (absents xs)

appended_none : (xs : List Cell) → xs ++ [] ≡ xs
appended_none [] = refl
appended_none (x ∷ xs) = ap (λ ys. x ∷ ys) (appended_none xs)

pub drop_law : (xs : List Label) → IsSchemeOf (OfDrop xs) (drops xs)
drop_law xs =
    rw (appended_none (absents xs)) (built _ _ (omega (arith, absents_below xs 1)) (rw (absents_tidy xs) refl) (lit≤ tt) tt (λ L. (
      λ h. (h.0.row_of 0, h.2 ∙ ap (by_columns (h.0.row_of 0)) (cleared_is h.0 xs (h.0.row_of 0))),
      λ d. (solution g_int d.0, tt, d.1 ∙ ap (by_columns d.0) (sym (cleared_is (solution g_int d.0) xs d.0))),
    )))
