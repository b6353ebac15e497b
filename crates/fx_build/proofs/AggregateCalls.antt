-- Operators that make one row of each table, or one of each differing value, are safe.
use Rattle.std.proofs.Common.{◌≡◌, refl, sym, subst, Bool, true, false, not, List, [], ◌∷◌, ◌++◌, map, length, ℤ, ◌-ℤ◌, pos, Option, Some, None}
use Rattle.std.specs.Prelude.{codes, if◌then◌else◌, cond, IsTrue}
use Rattle.std.specs.FinMap as fin
use Rattle.std.specs.FinMap.{get}
use Rattle.std.specs.List.{AllByRecursion, filter, flat_map}
use Rattle.std.specs.Ordering.{eq_by_cmp}
use Rattle.std.proofs.lemmas.Bool.{and_parts}
use mathlib.Core.Bool.{false≢true}
use Rattle.fx_base.specs.Text.{same_text}
use Rattle.fx_base.specs.declared.fault.FaultKind.TheVariants.{Overflow}
use Rattle.fx_base.specs.declared.place.Place.{Place}
use Rattle.fx_value.specs.Change.{all_changed}
use Rattle.fx_value.specs.Ends.{End, Gives, Faults}
use Rattle.fx_value.specs.Scalar.{scalar_cmp}
use Rattle.fx_value.specs.declared.change.Change.TheVariants.{Set}
use Rattle.fx_value.specs.declared.scalar.Scalar.{Scalar}
use Rattle.fx_value.specs.declared.scalar.Scalar.TheVariants as scalar
use Rattle.fx_types.proofs.Choices.{passed}
use Rattle.fx_types.specs.Ground.{Ground, GroundRow, g_int, g_stream, g_absent, g_is, is_plain}
use Rattle.fx_types.specs.Term.{Label}
use Rattle.fx_data.proofs.Lawful.{all-append}
use Rattle.fx_data.specs.Regrouped.{regrouped}
use Rattle.fx_data.specs.declared.key.Key.{Key}
use Rattle.fx_data.specs.declared.key.KeyEntry.{KeyEntry}
use Rattle.fx_data.specs.declared.table.Table.{Table}
use Rattle.fx_agg.proofs.Made.{time_pinned_rises}
use Rattle.fx_agg.specs.Aggregate.{aggregated, aggregated_table, aggregated_tables, one_row}
use Rattle.fx_agg.specs.Distinct.{differing, distinct_rows, distinguished, or_null, values}
use Rattle.fx_agg.specs.Numbers.{greatest, in_64_bits, int_of, integers, least, spread_of, spread_over, sum_of, summed, total, whole}
use Rattle.fx_agg.specs.OneRow.{is_shown, is_time, set_entry, valued}
use Rattle.fx_agg.specs.declared.agg.Agg.{Agg}
use Rattle.fx_agg.specs.declared.agg.Agg.TheVariants.{Count, Spread, Sum}
use Rattle.fx_schemes.specs.Builtins.{IsLine}
use Rattle.fx_schemes.specs.Given.{text_at}
use Rattle.fx_schemes.specs.Line.{from_tables, parameters, put, take_out}
use Rattle.fx_meaning.specs.declared.stream.StreamFn.TheVariants as s
use Rattle.fx_meaning.specs.Ends.{pure}
use Rattle.fx_meaning.specs.Meaning.{Tests}
use Rattle.fx_meaning.specs.Rows.{Row}
use Rattle.fx_plan.specs.Operators.{at_column}
use Rattle.fx_plan.specs.Sources.{Stored}
use Rattle.fx_build.specs.Fit.{column_kind, is_cell}
use Rattle.fx_build.specs.Rows.{EntryFits, KeyFits, RowFits, TableFits, TablesFit, is_column_of}
use Rattle.fx_build.specs.Safe.{IsSafe}
use Rattle.fx_build.proofs.ColumnCalls.{denied, word_safe}
use Rattle.fx_build.proofs.OperatorCalls.{OperatorIsSafe, by_line, one_safe}
use Rattle.fx_build.proofs.RenameCalls.{nothing_fits, set_fits}
use Rattle.fx_build.proofs.RowLaws.{put_fits}
use Rattle.fx_build.proofs.SafeLaws.{safe_then}
use Rattle.fx_build.proofs.TableLaws.{KeyedFits, flat_each_safe, regrouped_all}

-- a value of the type
abbrev pub IsValue : Ground → Scalar → Type 0
IsValue t a = IsTrue (is_cell (column_kind t) a)

-- ---- aggregate rows

module _ (r : GroundRow) (plain : (l : Label) → IsTrue (is_plain (r l))) (x : Label) (t : Ground) where
  abbrev untimed : GroundRow
  untimed = take_out (codes "_time") r

  untimed_plain : (l : Label) → IsTrue (is_plain (untimed l))
  untimed_plain l = at (same_text l (codes "_time"))
    where
      at : (c : Bool) → IsTrue (is_plain (if c then g_absent else r l))
      at true = refl
      at false = plain l

  changes_fit : (a : Scalar) → IsValue t a → (es : List KeyEntry) → AllByRecursion (EntryFits r) es → (out : Row) → RowFits untimed out
      → RowFits (put x t untimed) (all_changed (map set_entry (filter is_shown es) ++ Set x a ∷ []) out)
  changes_fit a is [] h out fit = put_fits untimed out x t a fit is
  changes_fit a is (e ∷ es) h out fit = step (is_shown e) refl (changes_fit a is es h.1)
    where
      step : (c : Bool) → c ≡ is_shown e → ((out : Row) → RowFits untimed out → RowFits (put x t untimed) (all_changed (map set_entry (filter is_shown es) ++ Set x a ∷ []) out))
          → RowFits (put x t untimed) (all_changed (map set_entry (cond c (e ∷ filter is_shown es) (filter is_shown es)) ++ Set x a ∷ []) out)
      step false k rest = rest out fit
      step true k rest =
          let both = and_parts (not e.pinned) (not (is_time e)) (sym k) in
          rest (fin.insert out e.label e.value)
          (set_fits untimed out e.label e.value fit
          (subst (λ f. IsTrue (is_column_of f (Some e.value))) (sym (passed (same_text e.label (codes "_time")) g_absent (r e.label) (denied (is_time e) both.1)))
          (subst (λ b. IsTrue (is_column_of (r e.label) (if b then None else Some e.value))) (denied e.pinned both.0) h.0)))

  pub valued_fits : (key : Key) (a : Scalar) → KeyFits r key → IsValue t a → KeyedFits (put x t untimed) (valued key x a)
  valued_fits key a h is = (time_pinned_rises key h.0, changes_fit a is key.entries h.1 fin.empty (nothing_fits untimed untimed_plain))

  pub one_row_safe : (key : Key) (end : End Scalar) → KeyFits r key → IsSafe (IsValue t) end → IsSafe (AllByRecursion (KeyedFits (put x t untimed))) (one_row key x end)
  one_row_safe key end h safe =
      safe_then (IsValue t) (AllByRecursion (KeyedFits (put x t untimed))) end (λ value. Gives (valued key x value ∷ []) 0) safe (λ a is. (valued_fits key a h is, tt))

-- ---- numbers

pub whole_safe : (place : Place) (n : ℤ) → IsSafe (IsValue g_int) (whole place n)
whole_safe place n = at (in_64_bits n) refl
  where
    at : (c : Bool) → c ≡ in_64_bits n → IsSafe (IsValue g_int) (if c then Gives (scalar.Int n) 0 else Faults (record { kind = Overflow; place = place }) 0)
    at true e = sym e
    at false e = tt

sum_of_safe : (place : Place) (ns : List ℤ) → IsSafe (IsValue g_int) (sum_of place ns)
sum_of_safe place [] = refl
sum_of_safe place (n ∷ ns) = whole_safe place (total (n ∷ ns))

spread_of_safe : (place : Place) (ns : List ℤ) → IsSafe (IsValue g_int) (spread_of place ns)
spread_of_safe place [] = refl
spread_of_safe place (n ∷ ns) = whole_safe place (greatest n ns -ℤ least n ns)

integers_safe : (r : GroundRow) (x : Label) → r x ≡ g_is g_int → (rows : List Row) → AllByRecursion (RowFits r) rows → IsSafe (AllByRecursion (λ n. Unit {0})) (integers x rows)
integers_safe r x has rows fit =
    flat_each_safe (RowFits r) (λ n. Unit {0}) (λ row. int_of (get row x)) rows fit (λ row h. at (get row x) (subst (λ f. IsTrue (is_column_of f (get row x))) has (h x)))
  where
    at : (o : Option Scalar) → IsTrue (is_column_of (g_is g_int) o) → IsSafe (AllByRecursion (λ n. Unit {0})) (int_of o)
    at None h = tt
    at (Some scalar.Null) h = tt
    at (Some (scalar.Int n)) h = (tt, tt)
    at (Some _) h = absurd (false≢true h)

pub sum_value : (r : GroundRow) (place : Place) (x : Label) → r x ≡ g_is g_int → (rows : List Row) → AllByRecursion (RowFits r) rows → IsSafe (IsValue g_int) (summed place x rows)
sum_value r place x has rows fit = safe_then (AllByRecursion (λ n. Unit {0})) (IsValue g_int) (integers x rows) (sum_of place) (integers_safe r x has rows fit) (λ ns _. sum_of_safe place ns)

pub spread_value : (r : GroundRow) (place : Place) (x : Label) → r x ≡ g_is g_int → (rows : List Row) → AllByRecursion (RowFits r) rows → IsSafe (IsValue g_int) (spread_over place x rows)
spread_value r place x has rows fit = safe_then (AllByRecursion (λ n. Unit {0})) (IsValue g_int) (integers x rows) (spread_of place) (integers_safe r x has rows fit) (λ ns _. spread_of_safe place ns)

module _ (r : GroundRow) (plain : (l : Label) → IsTrue (is_plain (r l))) (place : Place) (x : Label) where
  abbrev counts : GroundRow
  counts = put x g_int (take_out (codes "_time") r)

  pub tables_safe : (q : GroundRow) (which : Agg) → ((t : Table) → TableFits r t → IsSafe (AllByRecursion (KeyedFits q)) (aggregated_table place which x t)) → (tables : List Table) → TablesFit r tables
      → IsSafe (TablesFit q) (aggregated place which x tables)
  unfolding aggregated
  tables_safe q which each tables fit =
      safe_then (AllByRecursion (KeyedFits q)) (TablesFit q) (aggregated_tables place which x tables) (λ rows. Gives (regrouped rows) 0)
      (flat_each_safe (TableFits r) (KeyedFits q) (aggregated_table place which x) tables fit each) (λ rows all. regrouped_all q rows all)

  pub counted_safe : (tables : List Table) → TablesFit r tables → IsSafe (TablesFit counts) (aggregated place Count x tables)
  counted_safe tables fit = tables_safe counts Count (λ t h. one_row_safe r plain x g_int t.key (whole place (pos (length t.rows))) h.0 (whole_safe place (pos (length t.rows)))) tables fit

  pub summed_safe : r x ≡ g_is g_int → (tables : List Table) → TablesFit r tables → IsSafe (TablesFit counts) (aggregated place Sum x tables)
  summed_safe has tables fit = tables_safe counts Sum (λ t h. one_row_safe r plain x g_int t.key (summed place x t.rows) h.0 (sum_value r place x has t.rows h.1)) tables fit

  pub spread_over_safe : r x ≡ g_is g_int → (tables : List Table) → TablesFit r tables → IsSafe (TablesFit counts) (aggregated place Spread x tables)
  spread_over_safe has tables fit = tables_safe counts Spread (λ t h. one_row_safe r plain x g_int t.key (spread_over place x t.rows) h.0 (spread_value r place x has t.rows h.1)) tables fit

-- ---- differing values

module _ (r : GroundRow) (plain : (l : Label) → IsTrue (is_plain (r l))) (x : Label) (c : Ground) (has : r x ≡ g_is c) where
  abbrev distincts : GroundRow
  distincts = put (codes "_value") c (take_out (codes "_time") r)

  values_are : (rows : List Row) → AllByRecursion (RowFits r) rows → AllByRecursion (IsValue c) (values x rows)
  values_are [] h = tt
  values_are (row ∷ rows) h = (at (get row x) (subst (λ f. IsTrue (is_column_of f (get row x))) has (h.0 x)), values_are rows h.1)
    where
      at : (o : Option Scalar) → IsTrue (is_column_of (g_is c) o) → IsValue c (or_null o)
      at None h = h
      at (Some a) h = h

  left_are : (v : Scalar) (vs : List Scalar) → AllByRecursion (IsValue c) vs → AllByRecursion (IsValue c) (filter (λ w. not (eq_by_cmp scalar_cmp v w)) vs)
  left_are v [] h = tt
  left_are v (w ∷ vs) h =
      elim (not (eq_by_cmp scalar_cmp v w)) as (λ b. AllByRecursion (IsValue c) (cond b (w ∷ filter (λ w. not (eq_by_cmp scalar_cmp v w)) vs) (filter (λ w. not (eq_by_cmp scalar_cmp v w)) vs))) [
        | true ↦ (h.0, left_are v vs h.1)
        | false ↦ left_are v vs h.1
      ]

  differing_are : (vs : List Scalar) → AllByRecursion (IsValue c) vs → AllByRecursion (IsValue c) (differing vs)
  differing_are [] h = tt
  differing_are (v ∷ vs) h = (h.0, left_are v (differing vs) (differing_are vs h.1))

  valued_all : (key : Key) (vs : List Scalar) → KeyFits r key → AllByRecursion (IsValue c) vs → AllByRecursion (KeyedFits distincts) (map (valued key (codes "_value")) vs)
  valued_all key [] is h = tt
  valued_all key (v ∷ vs) is h = (valued_fits r plain (codes "_value") c key v is h.0, valued_all key vs is h.1)

  distinct_all : (tables : List Table) → TablesFit r tables → AllByRecursion (KeyedFits distincts) (flat_map (distinct_rows x) tables)
  distinct_all [] h = tt
  distinct_all (t ∷ tables) h =
      all-append (KeyedFits distincts) (distinct_rows x t) _ (valued_all t.key (differing (values x t.rows)) h.0.0 (differing_are (values x t.rows) (values_are t.rows h.0.1))) (distinct_all tables h.1)

  pub distinguished_fit : (tables : List Table) → TablesFit r tables → TablesFit distincts (distinguished x tables)
  unfolding distinguished
  distinguished_fit tables fit = regrouped_all distincts _ (distinct_all tables fit)

-- ---- operators

module _ (test : Tests) (stored : Stored) where
  pub count_safe : OperatorIsSafe test stored s.Count
  unfolding IsLine
  count_safe place w L needs input r args limit tss line =
      let q = line.2.0 in
      let out = line.2.1 in
      by_line test stored s.Count w (from_tables q (codes "column" ∷ []) [] [] (g_stream out)) _ _ _ refl
      (λ place args limit tss is have further. one_safe (TablesFit out) (put (codes "tables") (g_stream q) (parameters [])) (codes "tables") q (at_column (aggregated place Count) w) tss refl have
      (λ ts fit. word_safe (TablesFit out) (text_at w (codes "column") (Some (codes "_value"))) line.0 (λ column. aggregated place Count column ts) line.1
      (subst (λ p. IsSafe (TablesFit p) (aggregated place Count line.0 ts)) (sym line.2.2.3) (counted_safe q is.0.2.1 place line.0 ts fit)))) place L needs input r args limit tss line.2.3

  pub sum_safe : OperatorIsSafe test stored s.Sum
  unfolding IsLine
  sum_safe place w L needs input r args limit tss line =
      let q = line.2.0 in
      let out = line.2.1 in
      by_line test stored s.Sum w (from_tables q (codes "column" ∷ []) [] [] (g_stream out)) _ _ _ refl
      (λ place args limit tss is have further. one_safe (TablesFit out) (put (codes "tables") (g_stream q) (parameters [])) (codes "tables") q (at_column (aggregated place Sum) w) tss refl have
      (λ ts fit. word_safe (TablesFit out) (text_at w (codes "column") (Some (codes "_value"))) line.0 (λ column. aggregated place Sum column ts) line.1
      (subst (λ p. IsSafe (TablesFit p) (aggregated place Sum line.0 ts)) (sym line.2.2.1) (summed_safe q is.0.2.1 place line.0 line.2.2.0 ts fit)))) place L needs input r args limit tss line.2.3

  pub spread_safe : OperatorIsSafe test stored s.Spread
  unfolding IsLine
  spread_safe place w L needs input r args limit tss line =
      let q = line.2.0 in
      let out = line.2.1 in
      by_line test stored s.Spread w (from_tables q (codes "column" ∷ []) [] [] (g_stream out)) _ _ _ refl
      (λ place args limit tss is have further. one_safe (TablesFit out) (put (codes "tables") (g_stream q) (parameters [])) (codes "tables") q (at_column (aggregated place Spread) w) tss refl have
      (λ ts fit. word_safe (TablesFit out) (text_at w (codes "column") (Some (codes "_value"))) line.0 (λ column. aggregated place Spread column ts) line.1
      (subst (λ p. IsSafe (TablesFit p) (aggregated place Spread line.0 ts)) (sym line.2.2.1) (spread_over_safe q is.0.2.1 place line.0 line.2.2.0 ts fit)))) place L needs input r args limit tss line.2.3

  pub distinct_safe : OperatorIsSafe test stored s.Distinct
  unfolding IsLine
  distinct_safe place w L needs input r args limit tss line =
      let q = line.2.0 in
      let out = line.2.1 in
      by_line test stored s.Distinct w (from_tables q (codes "column" ∷ []) [] [] (g_stream out)) _ _ _ refl
      (λ place args limit tss is have further. one_safe (TablesFit out) (put (codes "tables") (g_stream q) (parameters [])) (codes "tables") q (at_column (λ column tables. pure (distinguished column tables)) w) tss refl have
      (λ ts fit. word_safe (TablesFit out) (text_at w (codes "column") (Some (codes "_value"))) line.0 (λ column. pure (distinguished column ts)) line.1
      (subst (λ p. IsSafe (TablesFit p) (pure (distinguished line.0 ts))) (sym line.2.2.3) (distinguished_fit q is.0.2.1 line.0 line.2.2.0 line.2.2.2 ts fit)))) place L needs input r args limit tss line.2.3
