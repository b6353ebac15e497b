-- Operators on tables that fit are safe, one lemma of one form for each.
use Rattle.std.proofs.Common.{◌≡◌, refl, sym, ap, subst, ◌∙◌, inl, inr, Bool, true, false, List, [], ◌∷◌, ℕ, ℤ, Some, None}
use Rattle.std.specs.Prelude.{if◌then◌else◌, codes, IsTrue, Option}
use Rattle.std.specs.FinMap.{get, insert}
use Rattle.std.specs.List.{AllByRecursion}
use Rattle.std.specs.List.Sorted.{IsStrictlySortedBy}
use mathlib.Core.Bool.{false≢true}
use Rattle.fx_base.specs.Text.{same_text}
use Rattle.fx_base.specs.declared.fault.FaultKind.TheVariants.{NoBucket}
use Rattle.fx_base.specs.declared.place.Place.{Place}
use Rattle.fx_time.specs.Spans.{is_year, moment, month_after, moved, span_after}
use Rattle.fx_time.specs.Months.{year_of}
use Rattle.fx_time.specs.declared.span.Span.{Span}
use Rattle.fx_value.specs.Ends.{End, Stuck}
use Rattle.fx_value.specs.declared.scalar.Kind.{Kind}
use Rattle.fx_value.specs.declared.scalar.Kind.TheVariants as kind
use Rattle.fx_value.specs.declared.scalar.Scalar.{Scalar}
use Rattle.fx_value.specs.declared.scalar.Scalar.TheVariants as scalar
use Rattle.fx_ops.specs.Whole.{in_64_bits}
use Rattle.fx_types.specs.Ground.{Ground, GroundField, GroundRow, g_bool, g_text, g_time, g_array, g_fun, g_rec, g_stream, g_is, is_plain, listed}
use Rattle.fx_types.specs.Kinds.{of_kind}
use Rattle.fx_types.specs.Size.{IsType}
use Rattle.fx_types.specs.Term.{Label}
use Rattle.fx_data.specs.Columns.{key_with}
use Rattle.fx_data.specs.Table.{HasRisingLabels}
use Rattle.fx_data.specs.declared.key.Key.{Key}
use Rattle.fx_data.specs.declared.table.Table.{Table}
use Rattle.fx_group.specs.Filter.{filtered, table_if}
use Rattle.fx_group.specs.Map.{mapped}
use Rattle.fx_group.specs.Range.{is_between, ranged}
use Rattle.fx_group.specs.RangeRows.{bounded_key}
use Rattle.fx_line.specs.Stored.{IsLawful}
use Rattle.fx_schemes.specs.Builtins.{IsLine}
use Rattle.fx_schemes.specs.Given.{Given}
use Rattle.fx_schemes.specs.Line.{Line, IsMoment as IsBound, call, from_tables, of_row, parameters, put, stored as row_of_kind}
use Rattle.fx_meaning.specs.declared.stream.StreamFn.{StreamFn}
use Rattle.fx_meaning.specs.declared.stream.StreamFn.TheVariants as s
use Rattle.fx_meaning.specs.Ends.{◌>>=◌, found, pure}
use Rattle.fx_meaning.specs.Forms.{argument, each, items_in, val_list}
use Rattle.fx_meaning.specs.Meaning.{Tests}
use Rattle.fx_meaning.specs.Native.{stream_builtin}
use Rattle.fx_meaning.specs.Natives.{input_labels}
use Rattle.fx_meaning.specs.Rows.{Row, row_from, row_meaning}
use Rattle.fx_meaning.specs.Value.{Val, cell, Vals, no_vals, more_vals, Slots, look}
use Rattle.fx_build.specs.Bound.{typed}
use Rattle.fx_build.specs.Fit.{FurtherFit, IsMoment, each_fits, fits, is_cell, keeps_at, with_input}
use Rattle.fx_build.specs.Rows.{KeyFits, RowFits, TablesFit, is_column_of}
use Rattle.fx_build.specs.Safe.{IsSafe}
use Rattle.fx_plan.specs.Sources.{AreLawful, Stored, source_tables}
use Rattle.fx_plan.specs.Operators.{bound_at, bound_or_now, bucket_tables, from_array, from_bucket, in_range, in_time, moment_in, no_argument, of_none, of_one, operator, row_in, text_at}
use Rattle.fx_build.proofs.KeyLaws.{key_with_fits}
use Rattle.fx_build.proofs.KindLaws.{of_array, of_cell, of_record, of_span, of_text}
use Rattle.fx_build.proofs.RowCalls.{tested_safe, turned_safe}
use Rattle.fx_build.proofs.RowLaws.{no_columns, put_fits, row_safe}
use Rattle.fx_build.proofs.SafeLaws.{safe_later, safe_then}
use Rattle.fx_build.proofs.SlotLaws.{AtSlot, keeps_out}
use Rattle.fx_build.proofs.SourceLaws.{one_by_one, source_fits}
use Rattle.fx_build.proofs.TableLaws.{filtered_safe, if_all, mapped_safe, ranged_safe}

-- ---- what inputs have

-- the tables at the labels, in order, have rows of the streams that the row has there
abbrev pub AreTables : List Label → GroundRow → List (List Table) → Type 0
AreTables [] needs [] = Unit {0}
AreTables (x ∷ xs) needs (ts ∷ tss) = ((r : GroundRow) × (needs x ≡ g_is (g_stream r)) × TablesFit r ts) × AreTables xs needs tss
AreTables _ needs _ = ⊥

abbrev pub HaveTables : StreamFn → GroundRow → List (List Table) → Type 0
HaveTables s.Union needs tss = (r : GroundRow) × (needs (codes "tables") ≡ g_is (g_array (g_stream r))) × AllByRecursion (TablesFit r) tss
HaveTables g needs tss = AreTables (input_labels g) needs tss

pub none_safe : (P : List Table → Type 0) (needs : GroundRow) (made : End (List Table)) (tss : List (List Table)) → AreTables [] needs tss → IsSafe P made → IsSafe P (of_none made tss)
none_safe P needs made [] have h = h
none_safe P needs made (ts ∷ tss) have h = absurd have

pub one_safe : (P : List Table → Type 0) (needs : GroundRow) (x : Label) (r : GroundRow) (made : List Table → End (List Table)) (tss : List (List Table)) → needs x ≡ g_is (g_stream r)
    → AreTables (x ∷ []) needs tss → ((ts : List Table) → TablesFit r ts → IsSafe P (made ts)) → IsSafe P (of_one made tss)
one_safe P needs x r made [] e have h = absurd have
one_safe P needs x r made (ts ∷ us ∷ tss) e have h = absurd have.1
one_safe P needs x r made (ts ∷ []) e have h =
    let same : have.0.0 ≡ r = cc (have.0.1, e) in h ts (subst (λ q. TablesFit q ts) same have.0.2)

-- a key without entries
pub no_labels : HasRisingLabels (record { entries = [] })
unfolding IsStrictlySortedBy
no_labels = tt

-- ---- arguments

pub argument_safe : {A : Type 0} (P : A → Type 0) (u : Ground) (args : Slots) (x : Label) (f : Val → End A) → keeps_at args x (typed u) ⊥ → ((v : Val) → fits v u → IsSafe P (f v))
    → IsSafe P (argument x args >>= f)
argument_safe P u args x f h next =
    safe_then (λ v. fits v u) P (argument x args) f (there (look x args) (keeps_out args x (typed u) ⊥ h)) next
  where
    there : (o : Option Val) → AtSlot o (typed u) ⊥ → IsSafe (λ v. fits v u) (found o)
    there (Some v) h = h
    there None h = absurd h

text_safe : (place : Place) (v : Val) → fits v g_text → IsSafe (λ t. Unit {0}) (text_at place v)
text_safe place v h = of_cell kind.Text v (λ y. IsSafe (λ t. Unit {0}) (text_at place y)) h (λ a is. of_text a (λ c. IsSafe (λ t. Unit {0}) (text_at place (cell c))) is tt (λ t. tt))

-- ---- the form of each lemma

module _ (test : Tests) (stored : Stored) where
  -- with the words of a line that is a type, on tables whose rows fit what it takes, and with arguments that fit all else,
  -- the operator isn't stuck, and the rows of its tables fit what the line gives
  abbrev pub OperatorIsSafe : StreamFn → Type 0
  OperatorIsSafe g =
      (place : Place) (w : Given) (L : Line) (needs : GroundRow) (input : GroundField) (r : GroundRow) (args : Slots) (limit : ℕ) (tss : List (List Table))
      → IsLine (stream_builtin g) w L → IsType L.type → L.type ≡ g_fun needs input (g_stream r) → HaveTables g (with_input L.pipe_label input needs) tss
      → FurtherFit g args (keeps_at args) (with_input L.pipe_label input needs) L.optional → IsSafe (TablesFit r) (operator test stored g place w args limit tss)

  -- the same of a line that is written out
  abbrev pub OnLine : StreamFn → Given → Line → GroundRow → GroundField → GroundRow → Type 0
  OnLine g w K needs input r =
      (place : Place) (args : Slots) (limit : ℕ) (tss : List (List Table)) → IsType K.type → HaveTables g (with_input K.pipe_label input needs) tss
      → FurtherFit g args (keeps_at args) (with_input K.pipe_label input needs) K.optional → IsSafe (TablesFit r) (operator test stored g place w args limit tss)

  pub by_line : (g : StreamFn) (w : Given) (K : Line) (n : GroundRow) (i : GroundField) (q : GroundRow) → K.type ≡ g_fun n i (g_stream q) → OnLine g w K n i q
      → (place : Place) (L : Line) (needs : GroundRow) (input : GroundField) (r : GroundRow) (args : Slots) (limit : ℕ) (tss : List (List Table)) → L ≡ K → IsType L.type
      → L.type ≡ g_fun needs input (g_stream r) → HaveTables g (with_input L.pipe_label input needs) tss → FurtherFit g args (keeps_at args) (with_input L.pipe_label input needs) L.optional
      → IsSafe (TablesFit r) (operator test stored g place w args limit tss)
  by_line g w K n i q has on place L needs input r args limit tss same is type have further =
      let made : g_fun n i (g_stream q) ≡ g_fun needs input (g_stream r) = sym has ∙ sym (ap (λ l. l.type) same) ∙ type in
      let same_needs : n ≡ needs = cc in
      let same_input : i ≡ input = cc in
      let same_row : q ≡ r = cc in
      subst (λ p. IsSafe (TablesFit p) (operator test stored g place w args limit tss)) same_row
      (on place args limit tss (subst (λ l. IsType l.type) same is)
      (subst (λ p. HaveTables g (with_input K.pipe_label i p) tss) (sym same_needs) (subst (λ p. HaveTables g (with_input K.pipe_label p needs) tss) (sym same_input) (subst (λ l. HaveTables g (with_input l.pipe_label input needs) tss) same have)))
      (subst (λ p. FurtherFit g args (keeps_at args) (with_input K.pipe_label i p) K.optional) (sym same_needs)
      (subst (λ p. FurtherFit g args (keeps_at args) (with_input K.pipe_label p needs) K.optional) (sym same_input)
      (subst (λ l. FurtherFit g args (keeps_at args) (with_input l.pipe_label input needs) l.optional) same further))))

  -- ---- sources

  bucket_on : (lawful : AreLawful stored) (k : Kind) (place : Place) (args : Slots) → keeps_at args (codes "bucket") (typed g_text) ⊥
      → IsSafe (TablesFit (row_of_kind (of_kind k))) (from_bucket stored k place args)
  bucket_on lawful k place args bucket =
      argument_safe (TablesFit (row_of_kind (of_kind k))) g_text args (codes "bucket") (λ v. text_at place v >>= bucket_tables stored k place) bucket
      (λ v fit. safe_then (λ t. Unit {0}) (TablesFit (row_of_kind (of_kind k))) (text_at place v) (bucket_tables stored k place) (text_safe place v fit) (λ t _. at t (listed t stored.buckets)))
    where
      at : (t : Label) (c : Bool) → IsSafe (TablesFit (row_of_kind (of_kind k))) (if c then pure (source_tables k t stored.points) else no_argument place NoBucket)
      at t true = source_fits k t stored.points (one_by_one (λ s. IsLawful s.point) stored.points lawful)
      at t false = tt

  pub from_safe : AreLawful stored → OperatorIsSafe s.From
  unfolding IsLine
  from_safe lawful place w L needs input r args limit tss line =
      by_line s.From w (call ((codes "bucket", g_text) ∷ []) [] (g_stream (row_of_kind (of_kind kind.Int)))) _ _ _ refl
      (λ place args limit tss is have further. none_safe (TablesFit (row_of_kind (of_kind kind.Int))) (parameters ((codes "bucket", g_text) ∷ [])) (from_bucket stored kind.Int place args) tss have (bucket_on lawful kind.Int place args (further (codes "bucket")))) place L needs input r args limit tss line

  pub texts_safe : AreLawful stored → OperatorIsSafe s.Texts
  unfolding IsLine
  texts_safe lawful place w L needs input r args limit tss line =
      by_line s.Texts w (call ((codes "bucket", g_text) ∷ []) [] (g_stream (row_of_kind (of_kind kind.Text)))) _ _ _ refl
      (λ place args limit tss is have further. none_safe (TablesFit (row_of_kind (of_kind kind.Text))) (parameters ((codes "bucket", g_text) ∷ [])) (from_bucket stored kind.Text place args) tss have (bucket_on lawful kind.Text place args (further (codes "bucket")))) place L needs input r args limit tss line

  pub bools_safe : AreLawful stored → OperatorIsSafe s.Bools
  unfolding IsLine
  bools_safe lawful place w L needs input r args limit tss line =
      by_line s.Bools w (call ((codes "bucket", g_text) ∷ []) [] (g_stream (row_of_kind (of_kind kind.Bool)))) _ _ _ refl
      (λ place args limit tss is have further. none_safe (TablesFit (row_of_kind (of_kind kind.Bool))) (parameters ((codes "bucket", g_text) ∷ [])) (from_bucket stored kind.Bool place args) tss have (bucket_on lawful kind.Bool place args (further (codes "bucket")))) place L needs input r args limit tss line

  -- ---- `array.from`

  module _ (q : GroundRow) (plain : (l : Label) → IsTrue (is_plain (q l))) where
    pub row_in_safe : (v : Val) → fits v (g_rec q) → IsSafe (RowFits q) (row_in v)
    row_in_safe v h = of_record q v (λ y. IsSafe (RowFits q) (row_in y)) h (λ fields fit. safe_later (RowFits q) 0 (row_from no_columns fields) (row_safe q plain fields fit))

    rows_safe : (vs : Vals) → each_fits vs (g_rec q) → IsSafe (AllByRecursion (RowFits q)) (each row_in (val_list vs))
    rows_safe no_vals h = tt
    rows_safe (more_vals v vs) h =
        safe_then (RowFits q) (AllByRecursion (RowFits q)) (row_in v) (λ row. each row_in (val_list vs) >>= (λ rows. pure (row ∷ rows))) (row_in_safe v h.0)
        (λ row is. safe_then (AllByRecursion (RowFits q)) (AllByRecursion (RowFits q)) (each row_in (val_list vs)) (λ rows. pure (row ∷ rows)) (rows_safe vs h.1) (λ rows all. (is, all)))

    array_on : (args : Slots) → keeps_at args (codes "rows") (typed (g_array (g_rec q))) ⊥ → IsSafe (TablesFit q) (from_array args)
    array_on args rows =
        safe_then (λ vs. each_fits vs (g_rec q)) (TablesFit q) (argument (codes "rows") args >>= items_in) (λ vs. each row_in (val_list vs) >>= (λ rows. pure (table_if (record { entries = [] }) rows)))
        (argument_safe (λ vs. each_fits vs (g_rec q)) (g_array (g_rec q)) args (codes "rows") items_in rows
        (λ v fit. of_array (g_rec q) v (λ y. IsSafe (λ vs. each_fits vs (g_rec q)) (items_in y)) fit (λ vs all. all)))
        (λ vs all. safe_then (AllByRecursion (RowFits q)) (TablesFit q) (each row_in (val_list vs)) (λ rows. pure (table_if (record { entries = [] }) rows)) (rows_safe vs all)
        (λ rows fit. if_all q (record { entries = [] }) rows (no_labels, tt) fit))

  pub array_safe : OperatorIsSafe s.ArrayFrom
  unfolding IsLine
  array_safe place w L needs input r args limit tss line =
      by_line s.ArrayFrom w (call ((codes "rows", g_array (g_rec line.0)) ∷ []) [] (g_stream line.0)) _ _ _ refl
      (λ place args limit tss is have further. none_safe (TablesFit line.0) (parameters ((codes "rows", g_array (g_rec line.0)) ∷ [])) (from_array args) tss have (array_on line.0 is.0.3.1 args (further (codes "rows")))) place L needs input r args limit tss line.1

  -- ---- `filter`, `map`

  pub filter_safe : OperatorIsSafe s.Filter
  unfolding IsLine
  filter_safe place w L needs input r args limit tss line =
      let q = line.1.0 in
      by_line s.Filter w (from_tables q (codes "onEmpty" ∷ []) ((codes "fn", of_row q g_bool) ∷ []) [] (g_stream q)) _ _ _ refl
      (λ place args limit tss is have further. one_safe (TablesFit q) (put (codes "tables") (g_stream q) (parameters ((codes "fn", of_row q g_bool) ∷ []))) (codes "tables") q _ tss refl have
      (λ ts fit. subst (λ c. IsSafe (TablesFit q) (if c then (argument (codes "fn") args >>= (λ f. filtered (row_meaning test f) ts limit)) else Stuck)) (sym line.0)
      (argument_safe (TablesFit q) (of_row q g_bool) args (codes "fn") (λ f. filtered (row_meaning test f) ts limit) (further (codes "fn"))
      (λ f h. filtered_safe q (row_meaning test f) limit (λ row k. tested_safe test limit q f row h k) ts fit)))) place L needs input r args limit tss line.1.1

  pub map_safe : OperatorIsSafe s.Map
  unfolding IsLine
  map_safe place w L needs input r args limit tss line =
      let p = line.0 in
      let q = line.1 in
      by_line s.Map w (from_tables p [] ((codes "fn", of_row p (g_rec q)) ∷ []) [] (g_stream q)) _ _ _ refl
      (λ place args limit tss is have further. one_safe (TablesFit q) (put (codes "tables") (g_stream p) (parameters ((codes "fn", of_row p (g_rec q)) ∷ []))) (codes "tables") p _ tss refl have
      (λ ts fit. argument_safe (TablesFit q) (of_row p (g_rec q)) args (codes "fn") (λ f. mapped (row_meaning test f) ts limit) (further (codes "fn"))
      (λ f h. mapped_safe p q (row_meaning test f) limit (λ row k. turned_safe test limit p q f row is.0.3.1 h k) ts fit))) place L needs input r args limit tss line.2

  -- ---- `range`

  in_time_safe : (place : Place) (now : ℤ) (d : Span) → IsSafe (λ t. IsTrue (in_64_bits t)) (in_time place (span_after now d))
  in_time_safe place now d = at (is_year (year_of (month_after now d.months)))
    where
      within : (c : Bool) (t : ℤ) → c ≡ in_64_bits t → IsSafe (λ t. IsTrue (in_64_bits t)) (in_time place (if c then Some t else None))
      within true t e = sym e
      within false t e = tt

      at : (c : Bool) → IsSafe (λ t. IsTrue (in_64_bits t)) (in_time place (if c then moment (moved now d) else None))
      at true = within (in_64_bits (moved now d)) (moved now d) refl
      at false = tt

  bound_safe : (place : Place) (now : ℤ) (u : Ground) (v : Val) → IsBound u → fits v u → IsSafe (λ t. IsTrue (in_64_bits t)) (bound_at place now v)
  bound_safe place now u v (inl e) h =
      of_cell kind.Time v (λ y. IsSafe (λ t. IsTrue (in_64_bits t)) (bound_at place now y)) (subst (fits v) e h) (λ a is. of_time a is)
    where
      of_time : (a : Scalar) → IsTrue (is_cell (Some kind.Time) a) → IsSafe (λ t. IsTrue (in_64_bits t)) (bound_at place now (cell a))
      of_time scalar.Null is = tt
      of_time (scalar.Time t) is = is
      of_time _ is = absurd (false≢true is)
  bound_safe place now u v (inr e) h =
      of_span v (λ y. IsSafe (λ t. IsTrue (in_64_bits t)) (bound_at place now y)) (subst (fits v) e.1 h) (λ d is. in_time_safe place now d)

  stop_safe : (place : Place) (now : ℤ) (u : Ground) (args : Slots) → IsTrue (in_64_bits now) → IsBound u → keeps_at args (codes "stop") (typed u) (Unit {0})
      → IsSafe (λ t. IsTrue (in_64_bits t)) (bound_or_now place now (look (codes "stop") args))
  stop_safe place now u args within is h = at (look (codes "stop") args) (keeps_out args (codes "stop") (typed u) (Unit {0}) h)
    where
      at : (o : Option Val) → AtSlot o (typed u) (Unit {0}) → IsSafe (λ t. IsTrue (in_64_bits t)) (bound_or_now place now o)
      at None k = within
      at (Some v) k = bound_safe place now u v is k

  moment_safe : (args : Slots) → IsMoment (look (codes "now") args) → IsSafe (λ t. IsTrue (in_64_bits t)) (argument (codes "now") args >>= moment_in)
  moment_safe args h = subst (λ o. IsSafe (λ t. IsTrue (in_64_bits t)) (found o >>= moment_in)) (sym h.1) h.2

  module _ (q : GroundRow) (time : q (codes "_time") ≡ g_is g_time) (start stop : ℤ) (first : IsTrue (in_64_bits start)) (last : IsTrue (in_64_bits stop)) where
    timed : (row : Row) → RowFits q row → IsSafe (λ between. Unit {0}) (is_between start stop (get row (codes "_time")))
    timed row fit = at (get row (codes "_time")) (subst (λ f. IsTrue (is_column_of f (get row (codes "_time")))) time (fit (codes "_time")))
      where
        at : (o : Option Scalar) → IsTrue (is_column_of (g_is g_time) o) → IsSafe (λ between. Unit {0}) (is_between start stop o)
        at None h = tt
        at (Some scalar.Null) h = tt
        at (Some (scalar.Time t)) h = tt
        at (Some _) h = absurd (false≢true h)

    abbrev bounded_row : GroundRow
    bounded_row = put (codes "_stop") g_time (put (codes "_start") g_time q)

    set_fits : (row : Row) → RowFits q row → RowFits bounded_row (insert (insert row (codes "_start") (scalar.Time start)) (codes "_stop") (scalar.Time stop))
    set_fits row fit =
        put_fits (put (codes "_start") g_time q) (insert row (codes "_start") (scalar.Time start)) (codes "_stop") g_time (scalar.Time stop) (put_fits q row (codes "_start") g_time (scalar.Time start) fit first) last

    key_fits : (key : Key) → KeyFits q key → KeyFits bounded_row (bounded_key start stop key)
    key_fits key h =
        key_with_fits (put (codes "_start") g_time q) (codes "_stop") g_time (scalar.Time stop) last (key_with key (codes "_start") (scalar.Time start)) (key_with_fits q (codes "_start") g_time (scalar.Time start) first key h)

    same_row : bounded_row ≡ put (codes "_start") g_time (put (codes "_stop") g_time q)
    same_row = λ i. λ l. (at (same_text l (codes "_stop")) (same_text l (codes "_start")) (q l)) i
      where
        at : (c d : Bool) (f : GroundField) → (if c then g_is g_time else (if d then g_is g_time else f)) ≡ (if d then g_is g_time else (if c then g_is g_time else f))
        at true true f = refl
        at true false f = refl
        at false true f = refl
        at false false f = refl

    between_on : (ts : List Table) → TablesFit q ts → IsSafe (TablesFit (put (codes "_start") g_time (put (codes "_stop") g_time q))) (ranged start stop ts)
    between_on ts fit = subst (λ p. IsSafe (TablesFit p) (ranged start stop ts)) same_row (ranged_safe q bounded_row start stop timed set_fits key_fits ts fit)

  pub range_safe : OperatorIsSafe s.Range
  unfolding IsLine
  range_safe place w L needs input r args limit tss line =
      let q = line.0 in
      let start = line.2 in
      let stop = line.4 in
      let out = put (codes "_start") g_time (put (codes "_stop") g_time q) in
      by_line s.Range w (from_tables q [] ((codes "start", start) ∷ []) ((codes "stop", stop) ∷ []) (g_stream out)) _ _ _ refl
      (λ place args limit tss is have further. one_safe (TablesFit out) (put (codes "tables") (g_stream q) (parameters ((codes "start", start) ∷ []))) (codes "tables") q (in_range place args) tss refl have
      (λ ts fit. safe_then (λ t. IsTrue (in_64_bits t)) (TablesFit out) (argument (codes "now") args >>= moment_in) _ (moment_safe args (further (codes "now")))
      (λ now within. argument_safe (TablesFit out) start args (codes "start") _ (further (codes "start"))
      (λ v h. safe_then (λ t. IsTrue (in_64_bits t)) (TablesFit out) (bound_at place now v) _ (bound_safe place now start v line.3 h)
      (λ a first. safe_then (λ t. IsTrue (in_64_bits t)) (TablesFit out) (bound_or_now place now (look (codes "stop") args)) _ (stop_safe place now stop args within line.5 (further (codes "stop")))
      (λ b last. between_on q line.1 a b first last ts fit)))))) place L needs input r args limit tss line.6
