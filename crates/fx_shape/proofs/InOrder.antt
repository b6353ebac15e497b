-- What rows in order are, and that a stable sort makes them.
use Rattle.std.proofs.Common.{◌≡◌, ◌<◌, Bool, true, false, T, List, [], ◌∷◌, map, length, refl, sym, ap, subst, ◌∙◌, arith}
use Rattle.std.proofs.lemmas.List.Sorted.{ranks_by}
use Rattle.std.specs.Prelude.{cond, not, ◌&&◌, if◌then◌else◌}
use Rattle.std.specs.declared.cmp.Ordering.{Ordering}
use Rattle.std.specs.declared.cmp.Ordering.TheVariants.{Less, Equal, Greater}
use Rattle.std.specs.Cmp.{IsTotalOrder, IsStrictWeakOrder, back_total, on_total, then_total}
use Rattle.std.specs.FinMap.{get}
use Rattle.std.specs.List.{AllByRecursion, filter}
use Rattle.std.specs.List.Sorted.{IsSortedBy, IsStableBy, IsPermutation, ties}
use Rattle.std.specs.Ordering.{is_lt, is_gt, ordering_reverse, ordering_then}
use Rattle.fx_value.specs.Scalar.{scalar_cmp}
use Rattle.fx_value.proofs.Scalars.{scalar_cmp_total}
use Rattle.fx_data.proofs.Merged.{all_moved}
use Rattle.fx_group.specs.Answer.{Row}
use Rattle.fx_shape.specs.Columns.{Label}
use Rattle.fx_shape.specs.Ranked.{ranked, rising_cmp, ranked_cmp}
use Rattle.fx_shape.specs.Sort.{directed_cmp, in_order, or_null, placed, rows_cmp}
use Rattle.fx_shape.specs.declared.sorting.Ranked.{Ranked}
use Rattle.fx_shape.proofs.Ordered.{NoneBelow, Ordered, ordered, one_order}

-- ---- the orders are total

nothing_total : {K : Type 0} → IsTotalOrder (λ (a b : K). Equal)
nothing_total = record { antisymm = λ a b. refl; trans = λ a b c h g. h; congr = λ a b c h. refl }

rows_total : (columns : List Label) → IsTotalOrder (rows_cmp columns)
rows_total [] = nothing_total
rows_total (column ∷ columns) = then_total (on_total (λ row. or_null (get row column)) scalar_cmp_total) (rows_total columns)

reversed_total : {K : Type 0} {R : K → K → Ordering} → IsTotalOrder R → IsTotalOrder (λ a b. ordering_reverse (R a b))
reversed_total {K} total = subst (λ (S : K → K → Ordering). IsTotalOrder S) (λ i a b. total.antisymm b a i) (back_total total)

directed_total : (desc : Bool) (columns : List Label) → IsTotalOrder (directed_cmp desc columns)
directed_total true columns = reversed_total (rows_total columns)
directed_total false columns = rows_total columns

ranked_total : (desc : Bool) (others : List Label) → IsTotalOrder (ranked_cmp desc others)
ranked_total true others = reversed_total (then_total (on_total (λ r. r.first) scalar_cmp_total) (on_total (λ r. r.row) (rows_total others)))
ranked_total false others = then_total (on_total (λ r. r.first) scalar_cmp_total) (on_total (λ r. r.row) (rows_total others))

-- whether the first stands before the second
abbrev pub row_before : Bool → List Label → Row → Row → Bool
row_before desc columns a b = is_lt (directed_cmp desc columns a b)

abbrev pub ranked_before : Bool → List Label → Ranked → Ranked → Bool
ranked_before desc others a b = is_lt (ranked_cmp desc others a b)

pub rows_order : (desc : Bool) (columns : List Label) → IsStrictWeakOrder (row_before desc columns)
rows_order desc columns = ranks_by (directed_total desc columns) (λ row. row)

pub ranked_order : (desc : Bool) (others : List Label) → IsStrictWeakOrder (ranked_before desc others)
ranked_order desc others = ranks_by (ranked_total desc others) (λ r. r)

-- ---- rows in order

module _ (cmp : Row → Row → Ordering) (total : IsTotalOrder cmp) where
  abbrev pub before : Row → Row → Bool
  before a b = is_lt (cmp a b)

  pub order : IsStrictWeakOrder before
  order = ranks_by total (λ row. row)

  turned : (a b : Row) → is_gt (cmp a b) ≡ before b a
  turned a b = ap is_gt (total.antisymm a b) ∙ back (cmp b a)
    where
      back : (o : Ordering) → is_gt (ordering_reverse o) ≡ is_lt o
      back Less = refl
      back Equal = refl
      back Greater = refl

  placed_all : (P : Row → Type 0) (row : Row) (rows : List Row) → P row → AllByRecursion P rows → AllByRecursion P (placed cmp row rows)
  placed_all P row [] h all = (h, tt)
  placed_all P row (next ∷ rows) h all =
      elim (is_gt (cmp row next)) as (λ b. AllByRecursion P (if b then next ∷ placed cmp row rows else row ∷ next ∷ rows)) [
        | true ↦ (all.0, placed_all P row rows h all.1)
        | false ↦ (h, all)
      ]

  -- what holds of all rows holds of them in order
  pub in_order_all : (P : Row → Type 0) (rows : List Row) → AllByRecursion P rows → AllByRecursion P (in_order cmp rows)
  in_order_all P [] all = tt
  in_order_all P (row ∷ rows) all = placed_all P row (in_order cmp rows) all.0 (in_order_all P rows all.1)

  behind : (row next : Row) (rows : List Row) → before next row ≡ false → NoneBelow before order next rows → NoneBelow before order row rows
  behind row next [] h all = tt
  behind row next (r ∷ rows) h all = (order.chain r next row all.0 h, behind row next rows h all.1)

  placed_ordered : (row : Row) (rows : List Row) → Ordered before order rows → Ordered before order (placed cmp row rows)
  placed_ordered row [] h = (tt, tt)
  placed_ordered row (next ∷ rows) h = at (is_gt (cmp row next)) refl (placed_ordered row rows h.1)
    where
      at : (b : Bool) → b ≡ is_gt (cmp row next) → Ordered before order (placed cmp row rows) → Ordered before order (if b then next ∷ placed cmp row rows else row ∷ next ∷ rows)
      at true b rest = (placed_all (λ r. before r next ≡ false) row rows (order.one_way next row (sym (b ∙ turned row next))) h.0, rest)
      at false b rest = let low : before next row ≡ false = sym (b ∙ turned row next) in ((low, behind row next rows low h.0), h)

  in_order_ordered : (rows : List Row) → Ordered before order (in_order cmp rows)
  in_order_ordered [] = tt
  in_order_ordered (row ∷ rows) = placed_ordered row (in_order cmp rows) (in_order_ordered rows)

  -- two that don't tie with one item may stand in either order
  either_way : (p q : Bool) (row next : Row) (rows : List Row) → (p ≡ true → q ≡ true → true ≡ false)
      → cond q (next ∷ cond p (row ∷ rows) rows) (cond p (row ∷ rows) rows) ≡ cond p (row ∷ cond q (next ∷ rows) rows) (cond q (next ∷ rows) rows)
  either_way true true row next rows not_both = absurd (subst T (not_both refl refl) tt)
  either_way true false row next rows not_both = refl
  either_way false q row next rows not_both = refl

  both_parts : (a b : Bool) → (not a && not b) ≡ true → (a ≡ false) × (b ≡ false)
  both_parts true b e = absurd (subst T (sym e) tt)
  both_parts false true e = absurd (subst T (sym e) tt)
  both_parts false false e = (refl, refl)

  placed_ties : (x row : Row) (rows : List Row) → filter (ties before x) (placed cmp row rows) ≡ filter (ties before x) (row ∷ rows)
  placed_ties x row [] = refl
  placed_ties x row (next ∷ rows) = at (is_gt (cmp row next)) refl (placed_ties x row rows)
    where
      at : (b : Bool) → b ≡ is_gt (cmp row next) → filter (ties before x) (placed cmp row rows) ≡ filter (ties before x) (row ∷ rows)
          → filter (ties before x) (if b then next ∷ placed cmp row rows else row ∷ next ∷ rows) ≡ filter (ties before x) (row ∷ next ∷ rows)
      at true b rest =
          ap (λ rs. cond (ties before x next) (next ∷ rs) rs) rest
          ∙ either_way (ties before x row) (ties before x next) row next (filter (ties before x) rows)
          (λ p q. b ∙ turned row next ∙ order.chain next x row (both_parts (before x next) (before next x) q).1 (both_parts (before x row) (before row x) p).0)
      at false b rest = refl

  in_order_ties : (x : Row) (rows : List Row) → filter (ties before x) (in_order cmp rows) ≡ filter (ties before x) rows
  in_order_ties x [] = refl
  in_order_ties x (row ∷ rows) = placed_ties x row (in_order cmp rows) ∙ ap (λ rs. cond (ties before x row) (row ∷ rs) rs) (in_order_ties x rows)

  -- rows in which none is below one before it, and those that tie stand as in the others, are the others in order
  pub order_is : (rows new : List Row) → Ordered before order new → ((x : Row) → filter (ties before x) new ≡ filter (ties before x) rows) → new ≡ in_order cmp rows
  order_is rows new h same = one_order before order new (in_order cmp rows) h (in_order_ordered rows) (λ x. same x ∙ sym (in_order_ties x rows))

-- rows that are in order stay as they are
pub in_order_still : (desc : Bool) (columns : List Label) (rows : List Row) → IsSortedBy (row_before desc columns) rows → rows ≡ in_order (directed_cmp desc columns) rows
in_order_still desc columns rows sorted =
    order_is (directed_cmp desc columns) (directed_total desc columns) rows rows (ordered (row_before desc columns) (rows_order desc columns) rows sorted) (λ x. refl)

-- so do rows without columns to sort by
in_order_by_none : (desc : Bool) (rows : List Row) → rows ≡ in_order (directed_cmp desc []) rows
in_order_by_none desc [] = refl
in_order_by_none desc (row ∷ rows) = ap (λ rs. row ∷ rs) (in_order_by_none desc rows) ∙ in_front (in_order (directed_cmp desc []) rows)
  where
    not_above : (b : Bool) (r : Row) → is_gt (directed_cmp b [] row r) ≡ false
    not_above true r = refl
    not_above false r = refl

    in_front : (rs : List Row) → row ∷ rs ≡ placed (directed_cmp desc []) row rs
    in_front [] = refl
    in_front (r ∷ rs) = ap (λ b. if b then r ∷ placed (directed_cmp desc []) row rs else row ∷ r ∷ rs) (sym (not_above desc r))

pub in_order_by_few : (desc : Bool) (columns : List Label) (rows : List Row) → length columns < 1 → rows ≡ in_order (directed_cmp desc columns) rows
in_order_by_few desc [] rows few = in_order_by_none desc rows
in_order_by_few desc (column ∷ columns) rows few = absurd (omega arith)

pub in_order_has : (P : Row → Type 0) (desc : Bool) (columns : List Label) (rows : List Row) → AllByRecursion P rows → AllByRecursion P (in_order (directed_cmp desc columns) rows)
in_order_has P desc columns rows all = in_order_all (directed_cmp desc columns) (directed_total desc columns) P rows all

-- ---- rows with their value in the first column

module _ (desc : Bool) (column : Label) (others : List Label) where
  abbrev IsRanked : Ranked → Type 0
  IsRanked r = r.first ≡ or_null (get r.row column)

  abbrev cmp : Row → Row → Ordering
  cmp = directed_cmp desc (column ∷ others)

  abbrev lt : Row → Row → Bool
  lt = row_before desc (column ∷ others)

  abbrev ranked_lt : Ranked → Ranked → Bool
  ranked_lt = ranked_before desc others

  same_rising : (a b : Ranked) → IsRanked a → IsRanked b → rising_cmp others a b ≡ rows_cmp (column ∷ others) a.row b.row
  same_rising a b h g = λ i. ordering_then (scalar_cmp (h i) (g i)) (rows_cmp others a.row b.row)

  same_lt : (a b : Ranked) → IsRanked a → IsRanked b → ranked_lt a b ≡ lt a.row b.row
  same_lt a b h g =
      elim desc as (λ d. is_lt (if d then ordering_reverse (rising_cmp others a b) else rising_cmp others a b)
      ≡ is_lt (if d then ordering_reverse (rows_cmp (column ∷ others) a.row b.row) else rows_cmp (column ∷ others) a.row b.row)) [
        | true ↦ ap (λ c. is_lt (ordering_reverse c)) (same_rising a b h g)
        | false ↦ ap is_lt (same_rising a b h g)
      ]

  none_below_rows : (r : Ranked) (rs : List Ranked) → IsRanked r → AllByRecursion IsRanked rs → NoneBelow ranked_lt (ranked_order desc others) r rs → NoneBelow lt (rows_order desc (column ∷ others)) r.row (map (λ s. s.row) rs)
  none_below_rows r [] h all below = tt
  none_below_rows r (s ∷ rs) h all below = (sym (same_lt s r all.0 h) ∙ below.0, none_below_rows r rs h all.1 below.1)

  ordered_rows : (rs : List Ranked) → AllByRecursion IsRanked rs → Ordered ranked_lt (ranked_order desc others) rs → Ordered lt (rows_order desc (column ∷ others)) (map (λ s. s.row) rs)
  ordered_rows [] all h = tt
  ordered_rows (r ∷ rs) all h = (none_below_rows r rs all.0 all.1 h.0, ordered_rows rs all.1 h.1)

  ties_rows : (x : Row) (rs : List Ranked) → AllByRecursion IsRanked rs → filter (ties lt x) (map (λ s. s.row) rs) ≡ map (λ s. s.row) (filter (ties ranked_lt (ranked column x)) rs)
  ties_rows x [] all = refl
  ties_rows x (r ∷ rs) all =
      (λ i. cond (same i) (r.row ∷ ties_rows x rs all.1 i) (ties_rows x rs all.1 i))
      ∙ pulled (ties ranked_lt (ranked column x) r)
    where
      same : ties lt x r.row ≡ ties ranked_lt (ranked column x) r
      same = λ i. not (sym (same_lt (ranked column x) r refl all.0) i) && not (sym (same_lt r (ranked column x) all.0 refl) i)

      pulled : (b : Bool) → cond b (r.row ∷ map (λ s. s.row) (filter (ties ranked_lt (ranked column x)) rs)) (map (λ s. s.row) (filter (ties ranked_lt (ranked column x)) rs))
          ≡ map (λ s. s.row) (cond b (r ∷ filter (ties ranked_lt (ranked column x)) rs) (filter (ties ranked_lt (ranked column x)) rs))
      pulled true = refl
      pulled false = refl

  all_ranked : (rows : List Row) → AllByRecursion IsRanked (map (ranked column) rows)
  all_ranked [] = tt
  all_ranked (row ∷ rows) = (refl, all_ranked rows)

  rows_back : (rows : List Row) → map (λ s. s.row) (map (ranked column) rows) ≡ rows
  rows_back [] = refl
  rows_back (row ∷ rows) = ap (λ rs. row ∷ rs) (rows_back rows)

  -- a stable sort of rows with their first value makes the rows in order
  pub ranked_is : (rows : List Row) (old new : List Ranked) → old ≡ map (ranked column) rows → IsPermutation old new → IsSortedBy ranked_lt new → IsStableBy ranked_lt old new
      → map (λ r. r.row) new ≡ in_order (directed_cmp desc (column ∷ others)) rows
  ranked_is rows old new made moved sorted stable =
      let before : AllByRecursion IsRanked old = subst (AllByRecursion IsRanked) (sym made) (all_ranked rows) in
      let after : AllByRecursion IsRanked new = all_moved IsRanked old new moved before in
      order_is cmp (directed_total desc (column ∷ others)) rows (map (λ r. r.row) new) (ordered_rows new after (ordered ranked_lt (ranked_order desc others) new sorted))
      (λ x. ties_rows x new after ∙ ap (map (λ r. r.row)) (stable (ranked column x)) ∙ sym (ties_rows x old before)
      ∙ ap (λ rs. filter (ties lt x) rs) (ap (map (λ r. r.row)) made ∙ rows_back rows))
