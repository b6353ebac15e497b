-- Operators on groups, on columns and on rows by their places are safe.
use Rattle.std.proofs.Common.{◌≡◌, refl, sym, ap, subst, ◌∙◌, inl, inr, Bool, true, false, ◌&&◌, not, ◌||◌, List, [], ◌∷◌, map, length, ℕ, zero, suc, ◌-◌, ℤ, pos, unsigned_abs, int_le, Some, None}
use Rattle.std.specs.Prelude.{cond, if◌then◌else◌, codes, IsTrue, Option, take, drop}
use Rattle.std.specs.FinMap as fin
use Rattle.std.specs.FinMap.{entries, get, insert}
use Rattle.std.specs.List.{AllByRecursion, filter, flat_map}
use Rattle.std.specs.Cmp.Lexicographic.{nat_list_cmp_total, same_text as equal_text}
use mathlib.Core.Bool.{false≢true}
use Rattle.fx_base.specs.Text.{same_text}
use Rattle.fx_base.specs.declared.fault.FaultKind.TheVariants.{BadCount}
use Rattle.fx_base.specs.declared.place.Place.{Place}
use Rattle.fx_value.proofs.Rows.{text_same}
use Rattle.fx_value.specs.Ends.{End, Gives, Faults, Stuck}
use Rattle.fx_value.specs.declared.scalar.Kind.TheVariants as kind
use Rattle.fx_value.specs.declared.scalar.Scalar.{Scalar}
use Rattle.fx_value.specs.declared.scalar.Scalar.TheVariants as scalar
use Rattle.fx_types.proofs.Choices.{chosen, passed}
use Rattle.fx_types.specs.Ground.{Ground, GroundRow, g_int, g_text, g_array, g_stream, g_absent, g_is, is_column, listed}
use Rattle.fx_types.specs.Term.{Label}
use Rattle.fx_data.specs.declared.keyed_row.KeyedRow.{KeyedRow}
use Rattle.fx_data.specs.declared.table.Table.{Table}
use Rattle.fx_data.proofs.Lawful.{all-append, bare_lawful}
use Rattle.fx_data.specs.Regrouped.{bare}
use Rattle.fx_data.specs.Shared.{column_entry}
use Rattle.fx_data.specs.Table.{HasRisingLabels, shown}
use Rattle.fx_data.specs.declared.key.Key.{Key}
use Rattle.fx_data.specs.declared.key.KeyEntry.{KeyEntry}
use Rattle.fx_group.specs.Group.{grouped_by, grouped_except, is_listed as is_named, picked_table, regrouped_by}
use Rattle.fx_group.specs.Range.{left_of}
use Rattle.fx_group.specs.Union.{united}
use Rattle.fx_schemes.specs.Builtins.{IsLine}
use Rattle.fx_schemes.specs.Given.{among, list_at, text_at}
use Rattle.fx_schemes.specs.Line.{IsKind, call, from_tables, kept, parameters, put, without}
use Rattle.fx_shape.proofs.Left.{left_lawful}
use Rattle.fx_shape.specs.Changed.{all_changed, rows_after}
use Rattle.fx_shape.specs.Columns.{as_there, column_doubled, column_filled, column_set, is_missing}
use Rattle.fx_shape.specs.Keep.{columns_dropped, columns_kept, columns_left, table_left}
use Rattle.fx_shape.specs.Part.{counted, first_part, last_part, limited, parts_of, tailed}
use Rattle.fx_meaning.specs.declared.stream.StreamFn.TheVariants as s
use Rattle.fx_meaning.specs.Ends.{◌>>=◌, fault_at, found, pure}
use Rattle.fx_meaning.specs.Forms.{cell_in, cell_of}
use Rattle.fx_meaning.specs.Meaning.{Tests}
use Rattle.fx_meaning.specs.Rows.{Row}
use Rattle.fx_meaning.specs.Value.{Val, cell, Slots, look}
use Rattle.fx_build.specs.Bound.{typed}
use Rattle.fx_build.specs.Fit.{column_kind, fits, is_cell, keeps_at}
use Rattle.fx_plan.specs.Operators.{count_at, count_or_none, doubled_in, grouped_in, in_groups, of_columns, of_places, with_value}
use Rattle.fx_build.specs.Rows.{EntryFits, RowFits, TableFits, TablesFit, is_column_of}
use Rattle.fx_build.specs.Safe.{IsSafe}
use Rattle.fx_plan.specs.Sources.{Stored}
use Rattle.fx_build.proofs.KeyLaws.{columns_have, columns_rise, has_fits}
use Rattle.fx_build.proofs.KindLaws.{of_cell, of_int}
use Rattle.fx_build.proofs.OperatorCalls.{OperatorIsSafe, argument_safe, by_line, one_safe}
use Rattle.fx_build.proofs.RowLaws.{get_inserted, of_column, put_fits, tied}
use Rattle.fx_build.proofs.SafeLaws.{safe_later, safe_then}
use Rattle.fx_build.proofs.SlotLaws.{AtSlot, keeps_out}
use Rattle.fx_build.proofs.TableLaws.{KeyedFits, gathered_all, left_all, regrouped_all}

-- ---- words

pub denied : (c : Bool) → not c ≡ true → c ≡ false
denied false e = refl
denied true e = absurd (false≢true e)

-- a word that is known
pub word_safe : {A B : Type 0} (P : B → Type 0) (o : Option A) (x : A) (f : A → End B) → o ≡ Some x → IsSafe P (f x) → IsSafe P (found o >>= f)
word_safe P o x f e h = subst (λ p. IsSafe P (found p >>= f)) (sym e) (safe_later P 0 (f x) h)

pub one_among : (o : Option Label) (ms : List Label) → among o ms ≡ true → (m : Label) × (o ≡ Some m) × (listed m ms ≡ true)
one_among None ms e = absurd (false≢true e)
one_among (Some m) ms e = (m, refl, e)

-- ---- rows of tables

module _ (P : Row → Type 0) where
  take_all : (n : ℕ) (rows : List Row) → AllByRecursion P rows → AllByRecursion P (take n rows)
  take_all zero rows h = tt
  take_all (suc n) [] h = tt
  take_all (suc n) (row ∷ rows) h = (h.0, take_all n rows h.1)

  drop_all : (n : ℕ) (rows : List Row) → AllByRecursion P rows → AllByRecursion P (drop n rows)
  drop_all zero rows h = h
  drop_all (suc n) [] h = tt
  drop_all (suc n) (row ∷ rows) h = drop_all n rows h.1

module _ (r : GroundRow) where
  rows_all : (tables : List Table) → TablesFit r tables → AllByRecursion (RowFits r) (flat_map (λ t. t.rows) tables)
  rows_all [] h = tt
  rows_all (t ∷ tables) h = all-append (RowFits r) t.rows _ h.0.1 (rows_all tables h.1)

  picked_fits : (picks : Label → Bool) (row : Row) → RowFits r row → TableFits r (picked_table picks row)
  picked_fits picks row fit =
      let whole : Key = record { entries = map column_entry (entries row) } in
      let left = left_lawful picks (record { key = whole; rows = row ∷ [] }) (record { rising = columns_rise row; columns = (columns_have row, tt) }) in (
        (
          subst (λ es. HasRisingLabels (record { entries = es })) (picked_same picks (entries row)) left.rising,
          subst (AllByRecursion (EntryFits r)) (picked_same picks (entries row)) (entries_left picks (map column_entry (entries row)) (has_fits r (map column_entry (entries row)) row (columns_have row) fit)),
        ),
        (fit, tt),
      )
    where
      picked_same : (picks : Label → Bool) (es : List (Label × Scalar)) → filter (λ e. picks e.label) (map column_entry es) ≡ map column_entry (filter (λ e. picks e.0) es)
      picked_same picks [] = refl
      picked_same picks (e ∷ es) =
          step (picks e.0) (picked_same picks es)
        where
          step : (c : Bool) → filter (λ e. picks e.label) (map column_entry es) ≡ map column_entry (filter (λ e. picks e.0) es)
              → (if c then column_entry e ∷ filter (λ e. picks e.label) (map column_entry es) else filter (λ e. picks e.label) (map column_entry es)) ≡ map column_entry (if c then e ∷ filter (λ e. picks e.0) es else filter (λ e. picks e.0) es)
          step true h = ap (λ ds. column_entry e ∷ ds) h
          step false h = h

      entries_left : (picks : Label → Bool) (es : List KeyEntry) → AllByRecursion (EntryFits r) es → AllByRecursion (EntryFits r) (filter (λ e. picks e.label) es)
      entries_left picks [] h = tt
      entries_left picks (e ∷ es) h =
          elim (picks e.label) as (λ c. AllByRecursion (EntryFits r) (if c then e ∷ filter (λ e. picks e.label) es else filter (λ e. picks e.label) es)) [
            | true ↦ (h.0, entries_left picks es h.1)
            | false ↦ entries_left picks es h.1
          ]

  picked_all : (picks : Label → Bool) (rows : List Row) → AllByRecursion (RowFits r) rows → TablesFit r (map (picked_table picks) rows)
  picked_all picks [] h = tt
  picked_all picks (row ∷ rows) h = (picked_fits picks row h.0, picked_all picks rows h.1)

  pub regrouped_by_all : (picks : Label → Bool) (tables : List Table) → TablesFit r tables → TablesFit r (regrouped_by picks tables)
  unfolding regrouped_by
  regrouped_by_all picks tables h = gathered_all r _ (picked_all picks (flat_map (λ t. t.rows) tables) (rows_all tables h))

  tables_all : (tss : List (List Table)) → AllByRecursion (TablesFit r) tss → TablesFit r (flat_map (λ ts. ts) tss)
  tables_all [] h = tt
  tables_all (ts ∷ tss) h = all-append (TableFits r) ts _ h.0 (tables_all tss h.1)

  pub united_all : (tss : List (List Table)) → AllByRecursion (TablesFit r) tss → TablesFit r (united tss)
  unfolding united
  united_all tss h = gathered_all r _ (tables_all tss h)

  parts_all : (part : List Row → List Row) → ((rows : List Row) → AllByRecursion (RowFits r) rows → AllByRecursion (RowFits r) (part rows)) → (tables : List Table) → TablesFit r tables → TablesFit r (parts_of part tables)
  parts_all part some [] h = tt
  parts_all part some (t ∷ tables) h = all-append (TableFits r) (left_of t.key t.rows (part t.rows)) _ (left_all r t.key t.rows (part t.rows) h.0.0 (some t.rows h.0.1)) (parts_all part some tables h.1)

  counted_safe : (place : Place) (n offset : ℤ) (part : ℕ → ℕ → List Row → List Row) → ((k l : ℕ) (rows : List Row) → AllByRecursion (RowFits r) rows → AllByRecursion (RowFits r) (part k l rows)) → (tables : List Table) → TablesFit r tables
      → IsSafe (TablesFit r) (counted place n offset part tables)
  counted_safe place n offset part some tables h = at (int_le (pos 0) n && int_le (pos 0) offset)
    where
      at : (c : Bool) → IsSafe (TablesFit r) (if c then Gives (parts_of (part (unsigned_abs n) (unsigned_abs offset)) tables) 0 else Faults (record { kind = BadCount; place = place }) 0)
      at true = parts_all (part (unsigned_abs n) (unsigned_abs offset)) (some (unsigned_abs n) (unsigned_abs offset)) tables h
      at false = tt

  pub limited_safe : (place : Place) (n offset : ℤ) (tables : List Table) → TablesFit r tables → IsSafe (TablesFit r) (limited place n offset tables)
  unfolding limited
  limited_safe place n offset tables h = counted_safe place n offset first_part (λ k l rows all. take_all (RowFits r) k (drop l rows) (drop_all (RowFits r) l rows all)) tables h

  pub tailed_safe : (place : Place) (n offset : ℤ) (tables : List Table) → TablesFit r tables → IsSafe (TablesFit r) (tailed place n offset tables)
  unfolding tailed
  tailed_safe place n offset tables h =
      counted_safe place n offset last_part (λ k l rows all. drop_all (RowFits r) (length rows - l - k) (take (length rows - l) rows) (take_all (RowFits r) (length rows - l) rows all)) tables h

module _ (p q : GroundRow) (change : Row → Row) (changes : (row : Row) → RowFits p row → RowFits q (change row)) where
  abbrev keyed : Table → Row → KeyedRow
  keyed t r = record { key = t.key; row = change r }

  table_after : (t : Table) (rows : List Row) → HasRisingLabels t.key → AllByRecursion (RowFits p) rows → AllByRecursion (KeyedFits q) (map (λ r. keyed t r) rows)
  table_after t [] rising h = tt
  table_after t (row ∷ rows) rising h = ((rising, changes row h.0), table_after t rows rising h.1)

  tables_after : (tables : List Table) → TablesFit p tables → AllByRecursion (KeyedFits q) (flat_map (rows_after (λ key. key) change) tables)
  tables_after [] h = tt
  tables_after (t ∷ tables) h = all-append (KeyedFits q) (rows_after (λ key. key) change t) _ (table_after t t.rows h.0.0.0 h.0.1) (tables_after tables h.1)

  pub changed_all : (tables : List Table) → TablesFit p tables → TablesFit q (all_changed change tables)
  changed_all tables h = regrouped_all q _ (tables_after tables h)

module _ (p q : GroundRow) (stays : Label → Bool) (left : (row : Row) → RowFits p row → RowFits q (fin.retain_keys row stays)) (same : (l : Label) → stays l ≡ true → q l ≡ p l) where
  rows_left : (rows : List Row) → AllByRecursion (RowFits p) rows → AllByRecursion (RowFits q) (map (λ row. fin.retain_keys row stays) rows)
  rows_left [] h = tt
  rows_left (row ∷ rows) h = (left row h.0, rows_left rows h.1)

  entries_left : (es : List KeyEntry) → AllByRecursion (EntryFits p) es → AllByRecursion (EntryFits q) (filter (λ e. stays e.label) es)
  entries_left [] h = tt
  entries_left (e ∷ es) h = step (stays e.label) refl (entries_left es h.1)
    where
      step : (c : Bool) → c ≡ stays e.label → AllByRecursion (EntryFits q) (filter (λ e. stays e.label) es)
          → AllByRecursion (EntryFits q) (if c then e ∷ filter (λ e. stays e.label) es else filter (λ e. stays e.label) es)
      step true k rest = (subst (λ f. IsTrue (is_column_of f (shown e))) (sym (same e.label (sym k))) h.0, rest)
      step false k rest = rest

  tables_left : (tables : List Table) → TablesFit p tables → TablesFit q (map (table_left stays) tables)
  tables_left [] h = tt
  tables_left (t ∷ tables) h = (
    (((left_lawful stays (bare t.key) (bare_lawful t.key h.0.0.0)).rising, entries_left t.key.entries h.0.0.1), rows_left t.rows h.0.1),
    tables_left tables h.1,
  )

  pub left_columns_all : (tables : List Table) → TablesFit p tables → TablesFit q (columns_left stays tables)
  left_columns_all tables h = gathered_all q _ (tables_left tables h)

-- ---- rows with other columns

pub named_listed : (xs : List Label) (l : Label) → is_named xs l ≡ listed l xs
named_listed [] l = refl
named_listed (x ∷ xs) l = step (same_text l x) (named_listed xs l)
  where
    step : (c : Bool) → is_named xs l ≡ listed l xs → (c || is_named xs l) ≡ (if c then true else listed l xs)
    step true e = refl
    step false e = e

pub get_left : (stays : Label → Bool) (row : Row) (l : Label) → get (fin.retain_keys row stays) l ≡ cond (stays l) (get row l) None
get_left stays row l = fin.get-retain_keys row stays l (λ x tie. ap stays (sym (text_same l x tie)))

kept_fits : (xs : List Label) (r : GroundRow) (row : Row) → RowFits r row → RowFits (kept xs r g_absent) (fin.retain_keys row (is_named xs))
kept_fits xs r row fit l =
    subst (λ o. IsTrue (is_column_of (kept xs r g_absent l) o)) (sym (get_left (is_named xs) row l ∙ ap (λ c. cond c (get row l) None) (named_listed xs l))) (at (listed l xs))
  where
    at : (c : Bool) → IsTrue (is_column_of (if c then r l else g_absent) (cond c (get row l) None))
    at true = fit l
    at false = refl

dropped_fits : (xs : List Label) (r : GroundRow) (row : Row) → RowFits r row → RowFits (without xs r) (fin.retain_keys row (λ l. not (is_named xs l)))
dropped_fits xs r row fit l =
    subst (λ o. IsTrue (is_column_of (without xs r l) o)) (sym (get_left (λ k. not (is_named xs k)) row l ∙ ap (λ c. cond (not c) (get row l) None) (named_listed xs l))) (at (listed l xs))
  where
    at : (c : Bool) → IsTrue (is_column_of (if c then g_absent else r l) (cond (not c) (get row l) None))
    at true = refl
    at false = fit l

kind_column : (c : Ground) → IsKind c → is_column c ≡ true
kind_column c (inl e) = ap is_column e
kind_column c (inr (inl e)) = ap is_column e
kind_column c (inr (inr (inl e))) = ap is_column e
kind_column c (inr (inr (inr (inl e)))) = ap is_column e
kind_column c (inr (inr (inr (inr e)))) = absurd (false≢true e.0)

kind_null : (c : Ground) → IsKind c → IsTrue (is_cell (column_kind c) scalar.Null)
kind_null c (inl e) = ap (λ t. is_cell (column_kind t) scalar.Null) e
kind_null c (inr (inl e)) = ap (λ t. is_cell (column_kind t) scalar.Null) e
kind_null c (inr (inr (inl e))) = ap (λ t. is_cell (column_kind t) scalar.Null) e
kind_null c (inr (inr (inr (inl e)))) = ap (λ t. is_cell (column_kind t) scalar.Null) e
kind_null c (inr (inr (inr (inr e)))) = absurd (false≢true e.0)

-- a column of its own kind
pub again_fits : (r : GroundRow) (row : Row) (x : Label) (c : Ground) (a : Scalar) → r x ≡ g_is c → RowFits r row → IsTrue (is_cell (column_kind c) a) → RowFits r (insert row x a)
again_fits r row x c a has fit is l = subst (λ o. IsTrue (is_column_of (r l) o)) (sym (get_inserted row x a l)) (at (same_text l x) refl)
  where
    at : (d : Bool) → d ≡ same_text l x → IsTrue (is_column_of (r l) (if d then Some a else get row l))
    at true e = subst (λ f. IsTrue (is_column_of f (Some a))) (sym (ap r (equal_text l x e) ∙ has)) is
    at false e = fit l

filled_fits : (r : GroundRow) (row : Row) (x : Label) (c : Ground) (a : Scalar) → r x ≡ g_is c → RowFits r row → IsTrue (is_cell (column_kind c) a)
    → RowFits r (if is_missing (get row x) then insert row x a else row)
filled_fits r row x c a has fit is = at (is_missing (get row x))
  where
    at : (d : Bool) → RowFits r (if d then insert row x a else row)
    at true = again_fits r row x c a has fit is
    at false = fit

doubled_fits : (r : GroundRow) (row : Row) (x y : Label) (c : Ground) → r x ≡ g_is c → IsKind c → RowFits r row → RowFits (put y c r) (as_there (get row x) y row)
doubled_fits r row x y c has kind fit = at (get row x) (subst (λ f. IsTrue (is_column_of f (get row x))) has (fit x))
  where
    gone : (l : Label) (d : Bool) → IsTrue (is_column_of (if d then g_is c else r l) (cond d None (get row l)))
    gone l true = kind_null c kind
    gone l false = fit l

    at : (o : Option Scalar) → IsTrue (is_column_of (g_is c) o) → RowFits (put y c r) (as_there o y row)
    at (Some a) is = put_fits r row y c a fit is
    at None is = λ l. subst (λ o. IsTrue (is_column_of (put y c r l) o)) (sym (fin.get-remove nat_list_cmp_total row y l ∙ ap (λ d. cond d None (get row l)) (tied l y))) (gone l (same_text l y))

-- ---- arguments

count_safe : (place : Place) (v : Val) → fits v g_int → IsSafe (λ n. Unit {0}) (count_at place v)
count_safe place v h = of_cell kind.Int v (λ y. IsSafe (λ n. Unit {0}) (count_at place y)) h (λ a is. of_int a (λ b. IsSafe (λ n. Unit {0}) (count_at place (cell b))) is tt (λ n _. at n (int_le (pos 0) n)))
  where
    at : (n : ℤ) (c : Bool) → IsSafe (λ n. Unit {0}) (if c then pure n else Faults (fault_at place BadCount) 0)
    at n true = tt
    at n false = tt

offset_safe : (place : Place) (args : Slots) → keeps_at args (codes "offset") (typed g_int) (Unit {0}) → IsSafe (λ n. Unit {0}) (count_or_none place (look (codes "offset") args))
offset_safe place args h = at (look (codes "offset") args) (keeps_out args (codes "offset") (typed g_int) (Unit {0}) h)
  where
    at : (o : Option Val) → AtSlot o (typed g_int) (Unit {0}) → IsSafe (λ n. Unit {0}) (count_or_none place o)
    at None k = tt
    at (Some v) k = count_safe place v k

value_safe : (c : Ground) (args : Slots) → is_column c ≡ true → keeps_at args (codes "value") (typed c) ⊥ → IsSafe (λ a. IsTrue (is_cell (column_kind c) a)) (cell_of (codes "value") args)
value_safe c args is h =
    argument_safe (λ a. IsTrue (is_cell (column_kind c) a)) c args (codes "value") cell_in h (λ v fit. of_column c v (λ y. IsSafe (λ a. IsTrue (is_cell (column_kind c) a)) (cell_in y)) is fit (λ a k. k))

places_safe : (part : Place → ℤ → ℤ → List Table → End (List Table)) (r : GroundRow) → ((place : Place) (n offset : ℤ) (ts : List Table) → TablesFit r ts → IsSafe (TablesFit r) (part place n offset ts))
    → (place : Place) (args : Slots) (ts : List Table) → keeps_at args (codes "n") (typed g_int) ⊥ → keeps_at args (codes "offset") (typed g_int) (Unit {0}) → TablesFit r ts
    → IsSafe (TablesFit r) (of_places part place args ts)
places_safe part r some place args ts n offset fit =
    argument_safe (TablesFit r) g_int args (codes "n") (λ v. count_at place v >>= (λ n. count_or_none place (look (codes "offset") args) >>= (λ offset. part place n offset ts))) n
    (λ v h. safe_then (λ n. Unit {0}) (TablesFit r) (count_at place v) (λ n. count_or_none place (look (codes "offset") args) >>= (λ offset. part place n offset ts)) (count_safe place v h)
    (λ n _. safe_then (λ n. Unit {0}) (TablesFit r) (count_or_none place (look (codes "offset") args)) (λ offset. part place n offset ts) (offset_safe place args offset)
    (λ offset _. some place n offset ts fit)))

-- ---- operators

module _ (test : Tests) (stored : Stored) where
  pub group_safe : OperatorIsSafe test stored s.Group
  unfolding IsLine
  group_safe place w L needs input r args limit tss line =
      let xs = line.1.0 in
      let q = line.1.2.0 in
      let mode = one_among (text_at w (codes "mode") (Some (codes "by"))) (codes "by" ∷ codes "except" ∷ []) line.0 in
      by_line test stored s.Group w (from_tables q (codes "columns" ∷ codes "mode" ∷ []) [] [] (g_stream q)) _ _ _ refl
      (λ place args limit tss is have further. one_safe (TablesFit q) (put (codes "tables") (g_stream q) (parameters [])) (codes "tables") q (in_groups w) tss refl have
      (λ ts fit. word_safe (TablesFit q) (list_at w (codes "columns") (Some [])) xs (λ columns. found (text_at w (codes "mode") (Some (codes "by"))) >>= (λ mode. grouped_in mode columns ts)) line.1.1
      (word_safe (TablesFit q) (text_at w (codes "mode") (Some (codes "by"))) mode.0 (λ mode. grouped_in mode xs ts) mode.1
      (in_mode xs q ts fit (same_text mode.0 (codes "by")) (same_text mode.0 (codes "except")) mode.2)))) place L needs input r args limit tss line.1.2.2
    where
      in_mode : (xs : List Label) (q : GroundRow) (ts : List Table) → TablesFit q ts → (c d : Bool) → (if c then true else (if d then true else false)) ≡ true
          → IsSafe (TablesFit q) (if c then pure (grouped_by xs ts) else (if d then pure (grouped_except xs ts) else Stuck))
      in_mode xs q ts fit true d e = regrouped_by_all q (is_named xs) ts fit
      in_mode xs q ts fit false true e = regrouped_by_all q (λ l. not (is_named xs l)) ts fit
      in_mode xs q ts fit false false e = absurd (false≢true e)

  pub union_safe : OperatorIsSafe test stored s.Union
  unfolding IsLine
  union_safe place w L needs input r args limit tss line =
      let q = line.0 in
      by_line test stored s.Union w (call ((codes "tables", g_array (g_stream q)) ∷ []) [] (g_stream q)) _ _ _ refl
      (λ place args limit tss is have further. let same : have.0 ≡ q = same_row q have.0 have.1 in united_all q tss (subst (λ p. AllByRecursion (TablesFit p) tss) same have.2))
      place L needs input r args limit tss line.1
    where
      same_row : (q p : GroundRow) → g_is (g_array (g_stream q)) ≡ g_is (g_array (g_stream p)) → p ≡ q
      same_row q p e = cc

  pub limit_safe : OperatorIsSafe test stored s.Limit
  unfolding IsLine
  limit_safe place w L needs input r args limit tss line =
      let q = line.0 in
      by_line test stored s.Limit w (from_tables q [] ((codes "n", g_int) ∷ []) ((codes "offset", g_int) ∷ []) (g_stream q)) _ _ _ refl
      (λ place args limit tss is have further. one_safe (TablesFit q) (put (codes "tables") (g_stream q) (parameters ((codes "n", g_int) ∷ []))) (codes "tables") q (of_places limited place args) tss refl have
      (λ ts fit. places_safe limited q (λ place n offset ts fit. limited_safe q place n offset ts fit) place args ts (further (codes "n")) (further (codes "offset")) fit)) place L needs input r args limit tss line.1

  pub tail_safe : OperatorIsSafe test stored s.Tail
  unfolding IsLine
  tail_safe place w L needs input r args limit tss line =
      let q = line.0 in
      by_line test stored s.Tail w (from_tables q [] ((codes "n", g_int) ∷ []) ((codes "offset", g_int) ∷ []) (g_stream q)) _ _ _ refl
      (λ place args limit tss is have further. one_safe (TablesFit q) (put (codes "tables") (g_stream q) (parameters ((codes "n", g_int) ∷ []))) (codes "tables") q (of_places tailed place args) tss refl have
      (λ ts fit. places_safe tailed q (λ place n offset ts fit. tailed_safe q place n offset ts fit) place args ts (further (codes "n")) (further (codes "offset")) fit)) place L needs input r args limit tss line.1

  pub keep_safe : OperatorIsSafe test stored s.Keep
  unfolding IsLine columns_kept
  keep_safe place w L needs input r args limit tss line =
      let xs = line.0 in
      let q = line.2.0 in
      let out = kept xs q g_absent in
      by_line test stored s.Keep w (from_tables q (codes "columns" ∷ []) [] [] (g_stream out)) _ _ _ refl
      (λ place args limit tss is have further. one_safe (TablesFit out) (put (codes "tables") (g_stream q) (parameters [])) (codes "tables") q (of_columns columns_kept w) tss refl have
      (λ ts fit. word_safe (TablesFit out) (list_at w (codes "columns") None) xs (λ columns. pure (columns_kept columns ts)) line.1
      (left_columns_all q out (is_named xs) (λ row h. kept_fits xs q row h) (λ l e. chosen (listed l xs) (q l) g_absent (sym (named_listed xs l) ∙ e)) ts fit))) place L needs input r args limit tss line.2.2

  pub drop_safe : OperatorIsSafe test stored s.DropColumns
  unfolding IsLine columns_dropped
  drop_safe place w L needs input r args limit tss line =
      let xs = line.0 in
      let q = line.2.0 in
      let out = without xs q in
      by_line test stored s.DropColumns w (from_tables q (codes "columns" ∷ []) [] [] (g_stream out)) _ _ _ refl
      (λ place args limit tss is have further. one_safe (TablesFit out) (put (codes "tables") (g_stream q) (parameters [])) (codes "tables") q (of_columns columns_dropped w) tss refl have
      (λ ts fit. word_safe (TablesFit out) (list_at w (codes "columns") None) xs (λ columns. pure (columns_dropped columns ts)) line.1
      (left_columns_all q out (λ l. not (is_named xs l)) (λ row h. dropped_fits xs q row h) (λ l e. passed (listed l xs) g_absent (q l) (sym (named_listed xs l) ∙ denied (is_named xs l) e)) ts fit))) place L needs input r args limit tss line.2.1

  pub set_safe : OperatorIsSafe test stored s.Set
  unfolding IsLine column_set
  set_safe place w L needs input r args limit tss line =
      let x = line.0 in
      let q = line.2.0 in
      let out = put x g_text q in
      by_line test stored s.Set w (from_tables q (codes "key" ∷ []) ((codes "value", g_text) ∷ []) [] (g_stream out)) _ _ _ refl
      (λ place args limit tss is have further. one_safe (TablesFit out) (put (codes "tables") (g_stream q) (parameters ((codes "value", g_text) ∷ []))) (codes "tables") q (with_value column_set (text_at w (codes "key") None) args) tss refl have
      (λ ts fit. word_safe (TablesFit out) (text_at w (codes "key") None) x (λ label. cell_of (codes "value") args >>= (λ value. pure (column_set label value ts))) line.1
      (safe_then (λ a. IsTrue (is_cell (column_kind g_text) a)) (TablesFit out) (cell_of (codes "value") args) (λ value. pure (column_set x value ts)) (value_safe g_text args refl (further (codes "value")))
      (λ a k. changed_all q out (λ row. insert row x a) (λ row h. put_fits q row x g_text a h k) ts fit)))) place L needs input r args limit tss line.2.1

  pub fill_safe : OperatorIsSafe test stored s.Fill
  unfolding IsLine column_filled
  fill_safe place w L needs input r args limit tss line =
      let x = line.0 in
      let q = line.2.0 in
      let c = line.2.1 in
      by_line test stored s.Fill w (from_tables q (codes "column" ∷ []) ((codes "value", c) ∷ []) [] (g_stream q)) _ _ _ refl
      (λ place args limit tss is have further. one_safe (TablesFit q) (put (codes "tables") (g_stream q) (parameters ((codes "value", c) ∷ []))) (codes "tables") q (with_value column_filled (text_at w (codes "column") (Some (codes "_value"))) args) tss refl have
      (λ ts fit. word_safe (TablesFit q) (text_at w (codes "column") (Some (codes "_value"))) x (λ label. cell_of (codes "value") args >>= (λ value. pure (column_filled label value ts))) line.1
      (safe_then (λ a. IsTrue (is_cell (column_kind c) a)) (TablesFit q) (cell_of (codes "value") args) (λ value. pure (column_filled x value ts)) (value_safe c args (kind_column c line.2.2) (further (codes "value")))
      (λ a k. changed_all q q (λ row. if is_missing (get row x) then insert row x a else row) (λ row h. filled_fits q row x c a line.2.3 h k) ts fit)))) place L needs input r args limit tss line.2.4

  pub duplicate_safe : OperatorIsSafe test stored s.Duplicate
  unfolding IsLine column_doubled
  duplicate_safe place w L needs input r args limit tss line =
      let x = line.0 in
      let y = line.2.0 in
      let q = line.2.2.0 in
      let c = line.2.2.1 in
      let out = put y c q in
      by_line test stored s.Duplicate w (from_tables q (codes "column" ∷ codes "as" ∷ []) [] [] (g_stream out)) _ _ _ refl
      (λ place args limit tss is have further. one_safe (TablesFit out) (put (codes "tables") (g_stream q) (parameters [])) (codes "tables") q (doubled_in w) tss refl have
      (λ ts fit. word_safe (TablesFit out) (text_at w (codes "column") None) x (λ column. found (text_at w (codes "as") None) >>= (λ copy. pure (column_doubled column copy ts))) line.1
      (word_safe (TablesFit out) (text_at w (codes "as") None) y (λ copy. pure (column_doubled x copy ts)) line.2.1
      (changed_all q out (λ row. as_there (get row x) y row) (λ row h. doubled_fits q row x y c line.2.2.3 line.2.2.2 h) ts fit)))) place L needs input r args limit tss line.2.2.4
