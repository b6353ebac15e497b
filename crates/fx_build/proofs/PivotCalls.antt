-- `pivot` of streams that fit is safe.
use Rattle.std.proofs.Common.{◌≡◌, refl, sym, ap, subst, ◌∙◌, Bool, true, false, ◌&&◌, not, ◌||◌, List, [], ◌∷◌, map, Option, Some, None}
use Rattle.std.specs.Prelude.{codes, if◌then◌else◌, IsTrue}
use Rattle.std.specs.FinMap as fin
use Rattle.std.specs.FinMap.{get, insert}
use Rattle.std.specs.List.{AllByRecursion, filter, list_any}
use Rattle.std.specs.Ordering.{eq_by_cmp}
use Rattle.std.specs.Cmp.Lexicographic.{same_text as equal_text}
use Rattle.std.proofs.lemmas.Bool.{and_from, and_parts}
use mathlib.Core.Bool.{false≢true}
use Rattle.fx_base.specs.Text.{same_text}
use Rattle.fx_base.specs.declared.fault.FaultKind.TheVariants.{PivotName}
use Rattle.fx_base.specs.declared.place.Place.{Place}
use Rattle.fx_value.specs.Ends.{Gives, Faults, Stuck, and_then}
use Rattle.fx_value.specs.declared.scalar.Scalar.{Scalar}
use Rattle.fx_value.specs.declared.scalar.Scalar.TheVariants as scalar
use Rattle.fx_types.specs.Ground.{Ground, GroundRow, g_stream, g_text, g_is, is_plain, listed}
use Rattle.fx_types.specs.Term.{Label}
use Rattle.fx_data.proofs.Lawful.{bare_lawful}
use Rattle.fx_data.specs.Regrouped.{bare, regrouped}
use Rattle.fx_data.specs.Table.{HasRisingLabels}
use Rattle.fx_data.specs.declared.key.KeyEntry.{KeyEntry}
use Rattle.fx_data.specs.declared.key.Key.{Key}
use Rattle.fx_data.specs.declared.table.Table.{Table}
use Rattle.fx_group.specs.Group.{is_listed as is_named}
use Rattle.fx_pivot.proofs.Orders.{values_total}
use Rattle.fx_pivot.proofs.Pivoted.{based_lawful, pivot_key_rises}
use Rattle.fx_pivot.specs.Cells.{cell_of, cell_under, cells_at, cells_by_place, cells_of, is_empty, is_refused, name_of, or_null, pivot_row, text_of, texts_of, values_cmp, values_of, with_cells, with_values}
use Rattle.fx_pivot.specs.Pivot.{are_apart as stand_apart, based, collected, keyed, pivot_key, pivot_rows, pivoted, pivoted_table, pivoted_tables, stays}
use Rattle.fx_pivot.specs.Hidden.{Cell}
use Rattle.fx_schemes.specs.Builtins.{IsLine, apart, are_apart}
use Rattle.fx_schemes.specs.Given.{list_at, text_at}
use Rattle.fx_schemes.specs.Line.{EachIs, HasAll, from_tables, kept, parameters, put}
use Rattle.fx_meaning.specs.declared.stream.StreamFn.TheVariants as s
use Rattle.fx_meaning.specs.Ends.{◌>>=◌, found}
use Rattle.fx_meaning.specs.Meaning.{Tests}
use Rattle.fx_meaning.specs.Rows.{Row}
use Rattle.fx_plan.specs.Operators.{pivoted_in}
use Rattle.fx_plan.specs.Sources.{Stored}
use Rattle.fx_plan.proofs.SlotLaws.{same_itself}
use Rattle.fx_build.specs.Rows.{EntryFits, RowFits, TableFits, TablesFit, is_column_of}
use Rattle.fx_build.specs.Safe.{IsSafe}
use Rattle.fx_build.proofs.ColumnCalls.{denied, named_listed, word_safe}
use Rattle.fx_build.proofs.OperatorCalls.{OperatorIsSafe, by_line, one_safe}
use Rattle.fx_build.proofs.RenameCalls.{nothing_fits, set_fits}
use Rattle.fx_build.proofs.SafeLaws.{safe_then}
use Rattle.fx_build.proofs.TableLaws.{KeyedFits, flat_each_safe, gathered_all, pairs_of, regrouped_all}

-- ---- lists of labels without a common one

apart_from : (xs ys : List Label) → apart xs ys ≡ true → (y : Label) → listed y ys ≡ true → listed y xs ≡ false
apart_from [] ys e y in_ys = refl
apart_from (x ∷ xs) ys e y in_ys = at (same_text y x) (listed x ys) refl refl (λ rest. apart_from xs ys rest y in_ys) e
  where
    at : (c d : Bool) → c ≡ same_text y x → d ≡ listed x ys → (apart xs ys ≡ true → listed y xs ≡ false) → (if d then false else apart xs ys) ≡ true → (if c then true else listed y xs) ≡ false
    at c true k l next e = absurd (false≢true e)
    at false false k l next e = next e
    at true false k l next e = absurd (false≢true (l ∙ ap (λ z. listed z ys) (sym (equal_text y x k)) ∙ in_ys))

none_named : (xs ys : List Label) → ((y : Label) → listed y ys ≡ true → listed y xs ≡ false) → list_any (is_named xs) ys ≡ false
none_named xs [] off = refl
none_named xs (y ∷ ys) off =
    either (is_named xs y) (list_any (is_named xs) ys) (named_listed xs y ∙ off y (ap (λ c. if c then true else listed y ys) (same_itself y)))
    (none_named xs ys (λ z in_ys. off z (later (same_text z y) (listed z ys) in_ys)))
  where
    either : (c d : Bool) → c ≡ false → d ≡ false → (c || d) ≡ false
    either false d h k = k
    either true d h k = absurd (false≢true (sym h))

    later : (c d : Bool) → d ≡ true → (if c then true else d) ≡ true
    later true d h = refl
    later false d h = h

-- what the line says of the labels is what the operator asks of them
apart_too : (xs ys : List Label) (z : Label) → are_apart xs ys z ≡ true → stand_apart xs ys z ≡ true
apart_too xs ys z e =
    let parts = and_parts (apart xs ys) (not (listed z xs) && not (listed z ys)) e in
    let value = and_parts (not (listed z xs)) (not (listed z ys)) parts.1 in
    and_from (not (list_any (is_named xs) (z ∷ ys))) (not (is_named ys z))
    (ap not (both (is_named xs z) (list_any (is_named xs) ys) (named_listed xs z ∙ denied (listed z xs) value.0) (none_named xs ys (apart_from xs ys parts.0))))
    (ap not (named_listed ys z ∙ denied (listed z ys) value.1))
  where
    both : (c d : Bool) → c ≡ false → d ≡ false → (c || d) ≡ false
    both false d h k = k
    both true d h k = absurd (false≢true (sym h))

-- ---- cells

module _ (r : GroundRow) (xs ys : List Label) (z : Label) (c : Ground) (present : HasAll r xs) (texts : EachIs r ys g_text) (has : r z ≡ g_is c)
    (plain : (l : Label) → IsTrue (is_plain (kept xs r (g_is c) l))) where
  abbrev made : GroundRow
  made = kept xs r (g_is c)

  -- values that stand under the labels
  abbrev Stand : List Label → List Scalar → Type 0
  Stand (l ∷ ls) (v ∷ vs) = IsTrue (is_column_of (made l) (Some v)) × Stand ls vs
  Stand _ _ = Unit {0}

  abbrev IsNamed : Label × Scalar → Type 0
  IsNamed e = IsTrue (is_column_of (made e.0) (Some e.1))

  abbrev IsCell : Cell → Type 0
  IsCell x = Stand xs x.place × IsNamed (x.name, x.value)

  value_is : (t : Ground) (o : Option Scalar) → IsTrue (is_column_of (g_is t) o) → IsTrue (is_column_of (g_is t) (Some (or_null o)))
  value_is t None h = h
  value_is t (Some a) h = h

  values_stand : (ls : List Label) (row : Row) → HasAll r ls → ((l : Label) → listed l ls ≡ true → listed l xs ≡ true) → RowFits r row → Stand ls (values_of ls row)
  values_stand [] row there within fit = tt
  values_stand (l ∷ ls) row there within fit = (
    subst (λ f. IsTrue (is_column_of f (Some (or_null (get row l))))) (sym (ap (λ b. if b then r l else g_is c) (within l (ap (λ b. if b then true else listed l ls) (same_itself l))) ∙ there.0.1))
        (value_is there.0.0 (get row l) (subst (λ f. IsTrue (is_column_of f (get row l))) there.0.1 (fit l))),
    values_stand ls row there.1 (λ k in_ls. within k (later (same_text k l) (listed k ls) in_ls)) fit,
  )
    where
      later : (b d : Bool) → d ≡ true → (if b then true else d) ≡ true
      later true d h = refl
      later false d h = h

  text_safe : (o : Option Scalar) → IsTrue (is_column_of (g_is g_text) o) → IsSafe (λ t. Unit {0}) (text_of o)
  text_safe None h = tt
  text_safe (Some scalar.Null) h = tt
  text_safe (Some (scalar.Text t)) h = tt
  text_safe (Some _) h = absurd (false≢true h)

  texts_safe : (ls : List Label) (row : Row) → EachIs r ls g_text → RowFits r row → IsSafe (AllByRecursion (λ t. Unit {0})) (texts_of ls row)
  texts_safe [] row each fit = tt
  texts_safe (l ∷ ls) row each fit =
      safe_then (AllByRecursion (λ t. Unit {0})) (AllByRecursion (λ t. Unit {0})) (and_then (text_of (get row l)) (λ text. Gives (text ∷ []) 0)) _
      (safe_then (λ t. Unit {0}) (AllByRecursion (λ t. Unit {0})) (text_of (get row l)) (λ text. Gives (text ∷ []) 0)
      (text_safe (get row l) (subst (λ f. IsTrue (is_column_of f (get row l))) each.0 (fit l))) (λ t _. (tt, tt)))
      (λ first all. safe_then (AllByRecursion (λ t. Unit {0})) (AllByRecursion (λ t. Unit {0})) (texts_of ls row) _ (texts_safe ls row each.1 fit) (λ rest also. units _))
    where
      units : (ts : List Label) → AllByRecursion (λ t. Unit {0}) ts
      units [] = tt
      units (t ∷ ts) = (tt, units ts)

  unlisted : (key : Key) (name : Label) → is_refused xs key name ≡ false → listed name xs ≡ false
  unlisted key name e = sym (named_listed xs name) ∙ at (is_empty name) (is_named xs name) (list_any (λ e. same_text name e.label) key.entries) e
    where
      at : (a b d : Bool) → (a || (b || d)) ≡ false → b ≡ false
      at false false d h = refl
      at false true d h = absurd (false≢true (sym h))
      at true b d h = absurd (false≢true (sym h))

  cell_safe : (place : Place) (key : Key) (row : Row) → RowFits r row → IsSafe IsCell (cell_of place xs ys z key row)
  cell_safe place key row fit =
      safe_then (λ name. Unit {0}) IsCell (name_of ys row) _
      (safe_then (AllByRecursion (λ t. Unit {0})) (λ name. Unit {0}) (texts_of ys row) _ (texts_safe ys row texts fit) (λ ts _. tt))
      (λ name _. at name (is_refused xs key name) refl)
    where
      at : (name : Label) (b : Bool) → b ≡ is_refused xs key name
          → IsSafe IsCell (if b then Faults (record { kind = PivotName; place = place }) 0 else Gives (cell_under xs z row name) 0)
      at name true e = tt
      at name false e = (
        values_stand xs row present (λ l h. h) fit,
        subst (λ f. IsTrue (is_column_of f (Some (or_null (get row z))))) (sym (ap (λ b. if b then r name else g_is c) (unlisted key name (sym e))))
            (value_is c (get row z) (subst (λ f. IsTrue (is_column_of f (get row z))) has (fit z))),
      )

  cells_safe : (place : Place) (key : Key) (rows : List Row) → AllByRecursion (RowFits r) rows → IsSafe (AllByRecursion IsCell) (cells_of place xs ys z key rows)
  cells_safe place key rows fit =
      flat_each_safe (RowFits r) IsCell (λ row. and_then (cell_of place xs ys z key row) (λ cell. Gives (cell ∷ []) 0)) rows fit
      (λ row h. safe_then IsCell (AllByRecursion IsCell) (cell_of place xs ys z key row) (λ cell. Gives (cell ∷ []) 0) (cell_safe place key row h) (λ cell is. (is, tt)))

  -- ---- rows of cells

  values_fit : (ls : List Label) (vs : List Scalar) (row : Row) → Stand ls vs → RowFits made row → RowFits made (with_values ls vs row)
  values_fit [] vs row h fit = fit
  values_fit (l ∷ ls) [] row h fit = fit
  values_fit (l ∷ ls) (v ∷ vs) row h fit = values_fit ls vs (insert row l v) h.1 (set_fits made row l v fit h.0)

  cells_fit : (es : List (Label × Scalar)) (row : Row) → AllByRecursion IsNamed es → RowFits made row → RowFits made (with_cells es row)
  cells_fit [] row h fit = fit
  cells_fit (e ∷ es) row h fit = cells_fit es (insert row e.0 e.1) h.1 (set_fits made row e.0 e.1 fit h.0)

  at_place : (vs : List Scalar) (cells : List Cell) → AllByRecursion IsCell cells → AllByRecursion IsNamed (cells_at vs cells)
  at_place vs [] h = tt
  at_place vs (x ∷ cells) h =
      elim (eq_by_cmp values_cmp vs x.place) as (λ b. AllByRecursion IsNamed (map (λ c. (c.name, c.value)) (if b then x ∷ filter (λ c. eq_by_cmp values_cmp vs c.place) cells else filter (λ c. eq_by_cmp values_cmp vs c.place) cells))) [
        | true ↦ (h.0.1, at_place vs cells h.1)
        | false ↦ at_place vs cells h.1
      ]

  abbrev IsPlace : List Scalar × List (Label × Scalar) → Type 0
  IsPlace e = Stand xs e.0 × AllByRecursion IsNamed e.1

  places_are : (all cells : List Cell) → AllByRecursion IsCell all → AllByRecursion IsCell cells → AllByRecursion IsPlace (map (λ x. (x.place, cells_at x.place all)) cells)
  places_are all [] h k = tt
  places_are all (x ∷ cells) h k = ((k.0.0, at_place x.place all h), places_are all cells h k.1)

  rows_of : (es : List (List Scalar × List (Label × Scalar))) → AllByRecursion IsPlace es → (key : Key) → HasRisingLabels key → AllByRecursion (KeyedFits made) (map (keyed key) (map (pivot_row xs) es))
  rows_of [] h key rising = tt
  rows_of (e ∷ es) h key rising = ((rising, cells_fit e.1 (with_values xs e.0 fin.empty) h.0.1 (values_fit xs e.0 fin.empty h.0.0 (nothing_fits made plain))), rows_of es h.1 key rising)

  pivot_fit : (key : Key) (cells : List Cell) → HasRisingLabels key → AllByRecursion IsCell cells → AllByRecursion (KeyedFits made) (map (keyed key) (pivot_rows xs cells))
  unfolding cells_by_place
  pivot_fit key cells rising h = rows_of _ (pairs_of values_cmp values_total (Stand xs) (AllByRecursion IsNamed) _ (places_are cells cells h h)) key rising

  table_safe : (place : Place) (t : Table) → TableFits r t → IsSafe (AllByRecursion (KeyedFits made)) (pivoted_table place xs ys z t)
  table_safe place t fit =
      safe_then (AllByRecursion IsCell) (AllByRecursion (KeyedFits made)) (cells_of place xs ys z t.key t.rows) (λ cells. Gives (map (keyed (pivot_key xs t.key)) (pivot_rows xs cells)) 0)
      (cells_safe place t.key t.rows fit.1) (λ cells h. pivot_fit (pivot_key xs t.key) cells (pivot_key_rises xs t.key fit.0.0) h)

  based_fit : (taken : List Label) (tables : List Table) → TablesFit r tables → TablesFit r (map (based taken) tables)
  based_fit taken [] h = tt
  based_fit taken (t ∷ tables) h = ((((based_lawful taken (bare t.key) (bare_lawful t.key h.0.0.0)).rising, entries_left t.key.entries h.0.0.1), h.0.1), based_fit taken tables h.1)
    where
      entries_left : (es : List KeyEntry) → AllByRecursion (EntryFits r) es → AllByRecursion (EntryFits r) (filter (stays taken) es)
      entries_left [] h = tt
      entries_left (e ∷ es) h =
          elim (stays taken e) as (λ b. AllByRecursion (EntryFits r) (if b then e ∷ filter (stays taken) es else filter (stays taken) es)) [
            | true ↦ (h.0, entries_left es h.1)
            | false ↦ entries_left es h.1
          ]

  pub pivoted_safe : (place : Place) (tables : List Table) → are_apart xs ys z ≡ true → TablesFit r tables → IsSafe (TablesFit made) (pivoted place xs ys z tables)
  unfolding pivoted
  pivoted_safe place tables e fit =
      subst (λ b. IsSafe (TablesFit made) (if b then and_then (pivoted_tables place xs ys z (collected (z ∷ ys) tables)) (λ rows. Gives (regrouped rows) 0) else Stuck)) (sym (apart_too xs ys z e))
      (safe_then (AllByRecursion (KeyedFits made)) (TablesFit made) (pivoted_tables place xs ys z (collected (z ∷ ys) tables)) (λ rows. Gives (regrouped rows) 0)
      (flat_each_safe (TableFits r) (KeyedFits made) (pivoted_table place xs ys z) (collected (z ∷ ys) tables) (gathered_all r _ (based_fit (z ∷ ys) tables fit)) (table_safe place))
      (λ rows all. regrouped_all made rows all))

pub pivot_safe : (test : Tests) (stored : Stored) → OperatorIsSafe test stored s.Pivot
unfolding IsLine
pivot_safe test stored place w L needs input r args limit tss line =
    let xs = line.0 in
    let ys = line.2.0 in
    let z = line.2.2.0 in
    let q = line.2.2.2.1.0 in
    let c = line.2.2.2.1.3 in
    let out = kept xs q (g_is c) in
    by_line test stored s.Pivot w (from_tables q (codes "rowKey" ∷ codes "columnKey" ∷ codes "valueColumn" ∷ []) [] [] (g_stream out)) _ _ _ refl
    (λ place args limit tss is have further. one_safe (TablesFit out) (put (codes "tables") (g_stream q) (parameters [])) (codes "tables") q (pivoted_in w place) tss refl have
    (λ ts fit. word_safe (TablesFit out) (list_at w (codes "rowKey") None) xs
    (λ rows. found (list_at w (codes "columnKey") None) >>= (λ columns. found (text_at w (codes "valueColumn") None) >>= (λ value. pivoted place rows columns value ts))) line.1
    (word_safe (TablesFit out) (list_at w (codes "columnKey") None) ys (λ columns. found (text_at w (codes "valueColumn") None) >>= (λ value. pivoted place xs columns value ts)) line.2.1
    (word_safe (TablesFit out) (text_at w (codes "valueColumn") None) z (λ value. pivoted place xs ys value ts) line.2.2.1
    (pivoted_safe q xs ys z c line.2.2.2.1.1 line.2.2.2.1.2 line.2.2.2.1.5 is.0.3.1 place ts line.2.2.2.0 fit))))) place L needs input r args limit tss line.2.2.2.1.6
