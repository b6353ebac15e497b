-- For each place its names and values, as a map and as lines.
use Rattle.std.proofs.Common.{◌≡◌, ℕ, Bool, true, false, List, [], ◌∷◌, ◌++◌, map, length, refl, sym, ap, subst, ◌∙◌, arith, append_assoc}
use Rattle.std.proofs.lemmas.List.{append-nil, map-append, same_from_push}
use Rattle.std.specs.Prelude.{cond, ◌||◌, Option, None, Some}
use Rattle.std.specs.Option.{unwrap_or}
use Rattle.std.specs.declared.cmp.Ordering.TheVariants.{Less, Equal}
use Rattle.std.specs.Ordering.{is_lt, is_eq, eq_by_cmp}
use Rattle.std.specs.Cmp.{Equal-is, eq_by_cmp_equiv}
use Rattle.std.specs.List.{AllByRecursion, filter, list_any}
use Rattle.std.specs.List.Sorted.{IsStrictlySortedBy}
use Rattle.std.specs.FinMap as fin
use Rattle.std.specs.FinMap.Entries.{find, put, by_order}
use Rattle.fx_data.proofs.Sorted.{keys_rise}
use Rattle.fx_group.specs.Answer.{Row}
use Rattle.fx_value.specs.declared.scalar.Scalar.{Scalar}
use Rattle.fx_value.specs.declared.scalar.Scalar.TheVariants.{Null}
use Rattle.fx_pivot.specs.Cells.{values_cmp, cells_at, cells_by_place, with_values, with_cells, pivot_row}
use Rattle.fx_pivot.specs.Ordered.{Places, LastIs, with_cell, with_all, line_of, lines_of}
use Rattle.fx_pivot.specs.declared.cell.Cell.{Cell}
use Rattle.fx_pivot.specs.declared.placing.Line.{Line}
use Rattle.fx_pivot.proofs.Orders.{values_total, values_same, lower, turned, strictly, places_kept}
use Rattle.std.specs.List.Sorted.{IsStableBy}

abbrev Values : Type 0
Values = List Scalar

abbrev Named : Type 0
Named = List (List ℕ × Scalar)

abbrev named : Cell → List ℕ × Scalar
named c = (c.name, c.value)

-- whether a cell stands there
abbrev stands : Values → List Cell → Bool
stands q cells = list_any (λ c. eq_by_cmp values_cmp q c.place) cells

find-by : (f : Values → Named) (q : Values) (cells : List Cell) → find values_cmp q (map (λ c. (c.place, f c.place)) cells) ≡ cond (stands q cells) (Some (f q)) None
find-by f q [] = refl
find-by f q (c ∷ cells) =
    elim (eq_by_cmp values_cmp q c.place) as (λ b. eq_by_cmp values_cmp q c.place ≡ b
    → cond b (Some (f c.place)) (find values_cmp q (map (λ d. (d.place, f d.place)) cells)) ≡ cond (b || stands q cells) (Some (f q)) None) [
      | true ↦ λ b. ap (λ (k : Values). Some (f k)) (sym (values_same q c.place ((Equal-is _).0 b)))
      | false ↦ λ b. find-by f q cells
    ] refl

get-places : (cells : List Cell) (q : Values) → fin.get (cells_by_place cells) q ≡ cond (stands q cells) (Some (cells_at q cells)) None
unfolding cells_by_place
get-places cells q = fin.get-from_entries values_total _ q ∙ find-by (λ k. cells_at k cells) q cells

-- ---- the same cells at each place

any_left : {X : Type 0} → List X → Bool
any_left [] = false
any_left (x ∷ xs) = true

stands-filter : (q : Values) (cells : List Cell) → stands q cells ≡ any_left (filter (λ c. eq_by_cmp values_cmp q c.place) cells)
unfolding any_left
stands-filter q [] = refl
stands-filter q (c ∷ cells) =
    elim (eq_by_cmp values_cmp q c.place) as (λ b. (b || stands q cells)
    ≡ any_left (cond b (c ∷ filter (λ d. eq_by_cmp values_cmp q d.place) cells) (filter (λ d. eq_by_cmp values_cmp q d.place) cells))) [
      | true ↦ refl
      | false ↦ stands-filter q cells
    ]

-- a stable sort changes no place
pub places_sorted : (old new : List Cell) → IsStableBy lower old new → cells_by_place new ≡ cells_by_place old
places_sorted old new stable =
    fin.same_map values_total values_same _ _ (λ q.
    let same : filter (λ c. eq_by_cmp values_cmp q c.place) new ≡ filter (λ c. eq_by_cmp values_cmp q c.place) old
    = places_kept old new stable (record { place = q; name = []; value = Null }) in
    get-places new q
    ∙ (λ i. cond (stands-filter q new i) (Some (cells_at q new)) None)
    ∙ (λ i. cond (any_left (same i)) (Some (map named (same i))) None)
    ∙ (λ i. cond (sym (stands-filter q old) i) (Some (cells_at q old)) None)
    ∙ sym (get-places old q))

-- ---- one more cell

stands-push : (q : Values) (cells : List Cell) (c : Cell) → stands q (cells ++ c ∷ []) ≡ cond (eq_by_cmp values_cmp q c.place) true (stands q cells)
stands-push q [] c = elim (eq_by_cmp values_cmp q c.place) as (λ b. (b || false) ≡ cond b true false) [ true ↦ refl | false ↦ refl ]
stands-push q (d ∷ cells) c =
    ap (λ b. eq_by_cmp values_cmp q d.place || b) (stands-push q cells c)
    ∙ elim (eq_by_cmp values_cmp q d.place) as (λ a. (a || cond (eq_by_cmp values_cmp q c.place) true (stands q cells)) ≡ cond (eq_by_cmp values_cmp q c.place) true (a || stands q cells)) [
      | true ↦ elim (eq_by_cmp values_cmp q c.place) as (λ b. true ≡ cond b true true) [ true ↦ refl | false ↦ refl ]
      | false ↦ refl
    ]

at-push : (q : Values) (cells : List Cell) (c : Cell) → cells_at q (cells ++ c ∷ []) ≡ cond (eq_by_cmp values_cmp q c.place) (cells_at q cells ++ named c ∷ []) (cells_at q cells)
at-push q [] c =
    elim (eq_by_cmp values_cmp q c.place) as (λ b. map named (cond b (c ∷ []) []) ≡ cond b (named c ∷ []) []) [ true ↦ refl | false ↦ refl ]
at-push q (d ∷ cells) c =
    elim (eq_by_cmp values_cmp q d.place) as (λ a. map named (cond a (d ∷ filter (λ e. eq_by_cmp values_cmp q e.place) (cells ++ c ∷ [])) (filter (λ e. eq_by_cmp values_cmp q e.place) (cells ++ c ∷ [])))
    ≡ cond (eq_by_cmp values_cmp q c.place) (map named (cond a (d ∷ filter (λ e. eq_by_cmp values_cmp q e.place) cells) (filter (λ e. eq_by_cmp values_cmp q e.place) cells)) ++ named c ∷ [])
    (map named (cond a (d ∷ filter (λ e. eq_by_cmp values_cmp q e.place) cells) (filter (λ e. eq_by_cmp values_cmp q e.place) cells)))) [
      | true ↦ ap (λ ns. named d ∷ ns) (at-push q cells c)
          ∙ elim (eq_by_cmp values_cmp q c.place) as (λ b. named d ∷ cond b (cells_at q cells ++ named c ∷ []) (cells_at q cells)
          ≡ cond b (named d ∷ (cells_at q cells ++ named c ∷ [])) (named d ∷ cells_at q cells)) [ true ↦ refl | false ↦ refl ]
      | false ↦ at-push q cells c
    ]

none_at : (q : Values) (cells : List Cell) → stands q cells ≡ false → cells_at q cells ≡ []
none_at q [] h = refl
none_at q (c ∷ cells) h =
    elim (eq_by_cmp values_cmp q c.place) as (λ b. (b || stands q cells) ≡ false
    → map named (cond b (c ∷ filter (λ d. eq_by_cmp values_cmp q d.place) cells) (filter (λ d. eq_by_cmp values_cmp q d.place) cells)) ≡ []) [
      | true ↦ λ h. cc
      | false ↦ λ h. none_at q cells h
    ] h

unwrapped : (q : Values) (cells : List Cell) → unwrap_or (cond (stands q cells) (Some (cells_at q cells)) None) [] ≡ cells_at q cells
unwrapped q cells =
    elim (stands q cells) as (λ b. stands q cells ≡ b → unwrap_or (cond b (Some (cells_at q cells)) None) [] ≡ cells_at q cells) [
      | true ↦ λ h. refl
      | false ↦ λ h. sym (none_at q cells h)
    ] refl

-- one more cell behind others
places_push : (cells : List Cell) (c : Cell) → cells_by_place (cells ++ c ∷ []) ≡ with_cell (cells_by_place cells) c
places_push cells c =
    let had : Named = unwrap_or (fin.get (cells_by_place cells) c.place) [] in
    let was : had ≡ cells_at c.place cells = ap (λ (o : Option Named). unwrap_or o []) (get-places cells c.place) ∙ unwrapped c.place cells in
    fin.same_map values_total values_same _ _ (λ q.
    get-places (cells ++ c ∷ []) q
    ∙ (λ i. cond (stands-push q cells c i) (Some (at-push q cells c i)) None)
    ∙ elim (eq_by_cmp values_cmp q c.place) as (λ b. eq_by_cmp values_cmp q c.place ≡ b
    → cond (cond b true (stands q cells)) (Some (cond b (cells_at q cells ++ named c ∷ []) (cells_at q cells))) None ≡ cond b (Some (had ++ named c ∷ [])) (fin.get (cells_by_place cells) q)) [
      | true ↦ λ b. ap (λ (k : Values). Some (cells_at k cells ++ named c ∷ [])) (values_same q c.place ((Equal-is _).0 b)) ∙ ap (λ (ns : Named). Some (ns ++ named c ∷ [])) (sym was)
      | false ↦ λ b. sym (get-places cells q)
    ] refl
    ∙ sym (fin.get-insert values_total (cells_by_place cells) c.place (had ++ named c ∷ []) q))

all_after : (done cells : List Cell) → with_all (cells_by_place done) cells ≡ cells_by_place (done ++ cells)
all_after done [] = ap cells_by_place (sym (append-nil done))
all_after done (c ∷ cells) =
    ap (λ (m : Places). with_all m cells) (sym (places_push done c)) ∙ all_after (done ++ c ∷ []) cells ∙ ap cells_by_place (append_assoc done (c ∷ []) cells)

no_places : cells_by_place [] ≡ fin.empty
unfolding cells_by_place
no_places = refl

-- cell after cell makes the places of all
pub all_placed : (cells : List Cell) → with_all fin.empty cells ≡ cells_by_place cells
all_placed cells = ap (λ (m : Places). with_all m cells) (sym no_places) ∙ all_after [] cells

-- ---- as lines

none_of : {X : Type 0} (es : List X) → length es ≡ 0 → es ≡ []
none_of [] n = refl
none_of (e ∷ es) n = absurd (omega arith)

pub no_lines : (labels : List (List ℕ)) → lines_of labels fin.empty ≡ []
no_lines labels = ap (map (line_of labels)) (none_of (fin.entries (fin.empty {X = Named} {R = values_cmp})) (sym (fin.len-entries _) ∙ fin.len-empty values_cmp Named))

-- cells of two parts, one after the other
cells_both : (ms ns : Named) (row : Row) → with_cells (ms ++ ns) row ≡ with_cells ns (with_cells ms row)
cells_both [] ns row = refl
cells_both (m ∷ ms) ns row = cells_both ms ns (fin.insert row m.0 m.1)

-- a list that isn't empty has a last item
record Ended {X : Type 0} (xs : List X) : Type 0 where
  front : List X
  last : X
  is : xs ≡ front ++ last ∷ []

ended : {X : Type 0} (x : X) (xs : List X) → Ended (x ∷ xs)
ended x [] = record { front = []; last = x; is = refl }
ended x (y ∷ ys) = let rest = ended y ys in record { front = x ∷ rest.front; last = rest.last; is = ap (λ zs. x ∷ zs) rest.is }

abbrev Entry : Type 0
Entry = Values × Named

abbrev Below : Values → List Entry → Type 0
Below k es = AllByRecursion (λ (e : Entry). values_cmp e.0 k ≡ Less) es

-- entries whose keys are below one that comes
put_behind : (k : Values) (v : Named) (es : List Entry) → Below k es → put values_cmp k v es ≡ es ++ (k, v) ∷ []
put_behind k v [] h = refl
put_behind k v (e ∷ es) h =
    ap (λ o. by_order o ((k, v) ∷ e ∷ es) ((e.0, v) ∷ es) (e ∷ put values_cmp k v es)) (turned values_cmp values_total e.0 k Less h.0) ∙ ap (λ ds. e ∷ ds) (put_behind k v es h.1)

put_last : (k : Values) (v : Named) (es : List Entry) (last : Entry) → Below k es → values_cmp k last.0 ≡ Equal → put values_cmp k v (es ++ last ∷ []) ≡ es ++ (last.0, v) ∷ []
put_last k v [] last h tie = ap (λ o. by_order o ((k, v) ∷ last ∷ []) ((last.0, v) ∷ []) (last ∷ (k, v) ∷ [])) tie
put_last k v (e ∷ es) last h tie =
    ap (λ o. by_order o ((k, v) ∷ e ∷ (es ++ last ∷ [])) ((e.0, v) ∷ (es ++ last ∷ [])) (e ∷ put values_cmp k v (es ++ last ∷ []))) (turned values_cmp values_total e.0 k Less h.0)
    ∙ ap (λ ds. e ∷ ds) (put_last k v es last h.1 tie)

apart_from : (k : Values) (e : Entry) → values_cmp e.0 k ≡ Less → eq_by_cmp values_cmp k e.0 ≡ false
apart_from k e below = ap is_eq (turned values_cmp values_total e.0 k Less below)

find_none : (k : Values) (es : List Entry) → Below k es → find values_cmp k es ≡ None
find_none k [] h = refl
find_none k (e ∷ es) h = ap (λ b. cond b (Some e.1) (find values_cmp k es)) (apart_from k e h.0) ∙ find_none k es h.1

find_last : (k : Values) (es : List Entry) (last : Entry) → Below k es → values_cmp k last.0 ≡ Equal → find values_cmp k (es ++ last ∷ []) ≡ Some last.1
find_last k [] last h tie = ap (λ o. cond (is_eq o) (Some last.1) None) tie
find_last k (e ∷ es) last h tie = ap (λ b. cond b (Some e.1) (find values_cmp k (es ++ last ∷ []))) (apart_from k e h.0) ∙ find_last k es last h.1 tie

reach : (k : Values) (es : List Entry) (last : Entry) → AllByRecursion (λ q. values_cmp k q ≡ Less) (map (λ (e : Entry). e.0) (es ++ last ∷ [])) → values_cmp k last.0 ≡ Less
reach k [] last h = h.0
reach k (e ∷ es) last h = reach k es last h.1

-- entries in order: those before the last are below it
below_last : (es : List Entry) (last : Entry) → IsStrictlySortedBy values_cmp (map (λ (e : Entry). e.0) (es ++ last ∷ [])) → Below last.0 es
unfolding IsStrictlySortedBy
below_last [] last h = tt
below_last (e ∷ es) last h = (reach e.0 es last h.0, below_last es last h.1)

below_next : (k : Values) (es : List Entry) (last : Entry) → Below last.0 es → values_cmp last.0 k ≡ Less → Below k es
below_next k [] last h next = tt
below_next k (e ∷ es) last h next = (values_total.trans e.0 last.0 k h.0 next, below_next k es last h.1 next)

below_both : (k : Values) (es : List Entry) (last : Entry) → Below k es → values_cmp last.0 k ≡ Less → Below k (es ++ last ∷ [])
below_both k [] last h below = (below, tt)
below_both k (e ∷ es) last h below = (h.0, below_both k es last h.1 below)

-- ---- lines with one more cell

line_longer : (labels : List (List ℕ)) (e : Entry) (c : Cell)
    → line_of labels (e.0, e.1 ++ named c ∷ []) ≡ record { place = e.0; row = fin.insert (pivot_row labels e) c.name c.value }
line_longer labels e c = λ i. record { place = e.0; row = cells_both e.1 (named c ∷ []) (with_values labels e.0 fin.empty) i }

lines-push : (labels : List (List ℕ)) (es : List Entry) (e : Entry) → map (line_of labels) (es ++ e ∷ []) ≡ map (line_of labels) es ++ line_of labels e ∷ []
lines-push labels es e = map-append (line_of labels) es (e ∷ [])

entries_with : (m : Places) (c : Cell) (es : List Entry) → fin.entries m ≡ es → fin.entries (with_cell m c) ≡ put values_cmp c.place (unwrap_or (find values_cmp c.place es) [] ++ named c ∷ []) es
entries_with m c es is =
    fin.entries-insert values_total m c.place (unwrap_or (fin.get m c.place) [] ++ named c ∷ [])
    ∙ (λ i. put values_cmp c.place (unwrap_or ((fin.get-entries m c.place ∙ ap (find values_cmp c.place) is) i) [] ++ named c ∷ []) (is i))

nothing_ends : {X : Type 0} (xs : List X) (x : X) → [] ≡ xs ++ x ∷ [] → ⊥
nothing_ends [] x is = cc
nothing_ends (y ∷ xs) x is = cc

-- the last entry is that of the last line
record LastOf (labels : List (List ℕ)) (es : List Entry) (front : List Line) (last : Line) : Type 0 where
  before : List Entry
  entry : Entry
  is : es ≡ before ++ entry ∷ []
  lines : map (line_of labels) before ≡ front
  line : line_of labels entry ≡ last

last_of : (labels : List (List ℕ)) (es : List Entry) (front : List Line) (last : Line) → map (line_of labels) es ≡ front ++ last ∷ [] → LastOf labels es front last
last_of labels [] front last is = absurd (nothing_ends front last is)
last_of labels (e ∷ es) front last is =
    let end = ended e es in
    let both = same_from_push (map (line_of labels) end.front) front (line_of labels end.last) last (sym (ap (map (line_of labels)) end.is ∙ lines-push labels end.front end.last) ∙ is) in
    record { before = end.front; entry = end.last; is = end.is; lines = both.0; line = both.1 }

module _ (labels : List (List ℕ)) (m : Places) (c : Cell) (lines front : List Line) (last : Line) (all : lines ≡ lines_of labels m) (ends : lines ≡ front ++ last ∷ []) where
  at_end : LastOf labels (fin.entries m) front last
  at_end = last_of labels (fin.entries m) front last (sym all ∙ ends)

  at_place : at_end.entry.0 ≡ last.place
  at_place = ap (λ (x : Line). x.place) at_end.line

  before_below : Below at_end.entry.0 at_end.before
  before_below =
      below_last at_end.before at_end.entry
      (subst (λ (es : List Entry). IsStrictlySortedBy values_cmp (map (λ (e : Entry). e.0) es)) at_end.is (keys_rise values_cmp (fin.entries m) (fin.entries_sorted m)))

  -- the cell stands where the last line does
  pub same_line : is_eq (values_cmp last.place c.place) ≡ true
      → front ++ record { place = last.place; row = fin.insert last.row c.name c.value } ∷ [] ≡ lines_of labels (with_cell m c)
  same_line tied =
      let here : last.place ≡ c.place = values_same last.place c.place ((Equal-is _).0 tied) in
      let tie : values_cmp c.place at_end.entry.0 ≡ Equal = ap (λ (k : Values). values_cmp k at_end.entry.0) (sym (at_place ∙ here)) ∙ (Equal-is _).0 ((eq_by_cmp_equiv values_total).refl at_end.entry.0) in
      let below : Below c.place at_end.before = subst (λ (k : Values). Below k at_end.before) (at_place ∙ here) before_below in
      let row : ◌≡◌ {A = Line} (line_of labels (at_end.entry.0, at_end.entry.1 ++ named c ∷ [])) (record { place = last.place; row = fin.insert last.row c.name c.value })
      = line_longer labels at_end.entry c ∙ ap (λ (x : Line). record { place = x.place; row = fin.insert x.row c.name c.value }) at_end.line in
      sym (ap (map (line_of labels)) (entries_with m c (at_end.before ++ at_end.entry ∷ []) at_end.is
      ∙ ap (λ (o : Option Named). put values_cmp c.place (unwrap_or o [] ++ named c ∷ []) (at_end.before ++ at_end.entry ∷ [])) (find_last c.place at_end.before at_end.entry below tie)
      ∙ put_last c.place (at_end.entry.1 ++ named c ∷ []) at_end.before at_end.entry below tie)
      ∙ lines-push labels at_end.before (at_end.entry.0, at_end.entry.1 ++ named c ∷ [])
      ∙ (λ i. at_end.lines i ++ row i ∷ []))

  -- the cell stands behind the last line
  pub next_line : is_eq (values_cmp last.place c.place) ≡ false → is_lt (values_cmp c.place last.place) ≡ false
      → lines ++ line_of labels (c.place, named c ∷ []) ∷ [] ≡ lines_of labels (with_cell m c)
  next_line apart order =
      let above : values_cmp last.place c.place ≡ Less = strictly values_cmp values_total last.place c.place (values_cmp last.place c.place) refl order apart in
      let above_last : values_cmp at_end.entry.0 c.place ≡ Less = ap (λ (k : Values). values_cmp k c.place) at_place ∙ above in
      let below : Below c.place (at_end.before ++ at_end.entry ∷ []) = below_both c.place at_end.before at_end.entry (below_next c.place at_end.before at_end.entry before_below above_last) above_last in
      sym (ap (map (line_of labels)) (entries_with m c (at_end.before ++ at_end.entry ∷ []) at_end.is
      ∙ ap (λ (o : Option Named). put values_cmp c.place (unwrap_or o [] ++ named c ∷ []) (at_end.before ++ at_end.entry ∷ [])) (find_none c.place (at_end.before ++ at_end.entry ∷ []) below)
      ∙ put_behind c.place (named c ∷ []) (at_end.before ++ at_end.entry ∷ []) below)
      ∙ lines-push labels (at_end.before ++ at_end.entry ∷ []) (c.place, named c ∷ [])
      ∙ (λ i. (ap (map (line_of labels)) (sym at_end.is) ∙ sym all) i ++ line_of labels (c.place, named c ∷ []) ∷ []))

-- the first line
nothing_maps : {X Y : Type 0} (f : X → Y) (xs : List X) → [] ≡ map f xs → xs ≡ []
nothing_maps f [] is = refl
nothing_maps f (x ∷ xs) is = cc

pub first_line : (labels : List (List ℕ)) (m : Places) (c : Cell) → [] ≡ lines_of labels m → line_of labels (c.place, named c ∷ []) ∷ [] ≡ lines_of labels (with_cell m c)
first_line labels m c none = sym (ap (map (line_of labels)) (entries_with m c [] (nothing_maps (line_of labels) (fin.entries m) none)))

-- the rows of the lines
rows_in : (labels : List (List ℕ)) (es : List Entry) → map (λ (x : Line). x.row) (map (line_of labels) es) ≡ map (pivot_row labels) es
rows_in labels [] = refl
rows_in labels (e ∷ es) = ap (λ (rows : List Row). pivot_row labels e ∷ rows) (rows_in labels es)

pub rows_of_lines : (labels : List (List ℕ)) (m : Places) → map (λ (x : Line). x.row) (lines_of labels m) ≡ map (pivot_row labels) (fin.entries m)
rows_of_lines labels m = rows_in labels (fin.entries m)

-- the line that was pushed is the last
pub last_pushed : (lines after : List Line) (x : Line) (place : Values) → after ≡ lines ++ x ∷ [] → x.place ≡ place → LastIs place after
last_pushed lines after x place is here front last ends =
    ap (λ (y : Line). y.place) (same_from_push front lines last x (sym ends ∙ is)).1 ∙ here

pub no_last_line : (front : List Line) (last : Line) → [] ≡ front ++ last ∷ [] → ⊥
no_last_line front last is = nothing_ends front last is

pub nothing_left : {X : Type 0} (xs : List X) → length xs ≡ 0 → xs ≡ []
nothing_left xs n = none_of xs n
