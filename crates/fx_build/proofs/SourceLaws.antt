-- The rows of stored points fit the row of their kind.
use Rattle.std.proofs.Common.{◌≡◌, refl, sym, ap, subst, ◌∙◌, Bool, true, false, not, List, [], ◌∷◌, map, suc, ℤ, Some, None, arith}
use Rattle.std.specs.Prelude.{if◌then◌else◌, codes, IsTrue, All, Option, fold, nat_eq}
use Rattle.std.specs.BTreeMap.{insert_entry}
use Rattle.std.specs.Cmp.Lexicographic.{same_text as equal_text}
use Rattle.std.specs.FinMap.{empty, entries, get, get-empty, insert}
use Rattle.std.specs.List.{AllByRecursion, filter, starts_with}
use Rattle.std.specs.Ordering.{int_cmp, match_ordering}
use Rattle.std.specs.declared.cmp.Ordering.TheVariants.{Less, Equal, Greater}
use Rattle.std.proofs.lemmas.Bool.{and_parts}
use mathlib.Core.Bool.{false≢true}
use Rattle.fx_base.specs.Text.{same_text, text_cmp}
use Rattle.fx_value.specs.Scalar.{kind_of}
use Rattle.fx_value.specs.declared.scalar.Kind.{Kind}
use Rattle.fx_value.specs.declared.scalar.Kind.TheVariants as kind
use Rattle.fx_value.specs.declared.scalar.Scalar.{Scalar}
use Rattle.fx_value.specs.declared.scalar.Scalar.TheVariants as scalar
use Rattle.fx_ops.specs.Whole.{in_64_bits}
use Rattle.fx_types.proofs.Choices.{passed}
use Rattle.fx_types.specs.Ground.{GroundRow, g_text, g_time, g_is}
use Rattle.fx_types.specs.Kinds.{of_kind}
use Rattle.fx_types.specs.Term.{Label}
use Rattle.fx_data.specs.Shared.{column_entry}
use Rattle.fx_schemes.specs.Line.{put, stored as row_of_kind}
use Rattle.fx_line.specs.declared.point.Point.{Point}
use Rattle.fx_line.specs.declared.point.SeriesKey.{SeriesKey}
use Rattle.fx_line.specs.declared.point.Tag.{Tag}
use Rattle.fx_line.specs.Stored.{IsLawful, IsStorable, SeriesId, StoredPoint, by_time, first_seen, id_of, points_of, same_id, same_kind, same_name, series_of}
use Rattle.fx_meaning.specs.Rows.{Row}
use Rattle.fx_build.specs.Fit.{column_kind, is_cell}
use Rattle.fx_build.specs.Rows.{EntryFits, KeyFits, RowFits, TablesFit, is_column_of}
use Rattle.fx_plan.specs.Sources.{is_wanted, key_of, named, row_at, series_table, source_tables, with_tags}
use Rattle.fx_build.proofs.KeyLaws.{columns_rise, entries_found}
use Rattle.fx_build.proofs.KindLaws.{fits_test}
use Rattle.fx_build.proofs.RowLaws.{get_inserted, put_fits}
use Rattle.fx_build.proofs.TableLaws.{gathered_all}

pub one_by_one : {X : Type 0} (P : X → Type 0) (xs : List X) → All P xs → AllByRecursion P xs
one_by_one P [] h = tt
one_by_one P (x ∷ xs) h = (h 0 x (omega arith), one_by_one P xs (λ k d lt. h (suc k) d (omega arith)))

-- ---- the columns of a series

-- nothing but texts

abbrev texts_alone : GroundRow
texts_alone l = g_is g_text

nothing_fits : RowFits texts_alone empty
nothing_fits l = subst (λ o. IsTrue (is_column_of (g_is g_text) o)) (sym (get-empty text_cmp l)) refl

-- a text in a row of texts
text_fits : (row : Row) (x text : Label) → RowFits texts_alone row → RowFits texts_alone (insert row x (scalar.Text text))
text_fits row x text fit l = by_label (same_text l x) (put_fits texts_alone row x g_text (scalar.Text text) fit refl l)
  where
    by_label : (c : Bool) → IsTrue (is_column_of (if c then g_is g_text else g_is g_text) (get (insert row x (scalar.Text text)) l)) → IsTrue (is_column_of (g_is g_text) (get (insert row x (scalar.Text text)) l))
    by_label true h = h
    by_label false h = h

tags_fit : (tags : List Tag) (row : Row) → RowFits texts_alone row → RowFits texts_alone (with_tags row tags)
tags_fit [] row fit = fit
tags_fit (tag ∷ tags) row fit = tags_fit tags (insert row tag.key (scalar.Text tag.value)) (text_fits row tag.key tag.value fit)

-- a time of 64 bits, and a value of the kind
abbrev IsEntry : Kind → ℤ × Scalar → Type 0
IsEntry k v = IsTrue (in_64_bits v.0) × IsTrue (is_cell (Some k) v.1)

column_is : (k : Kind) → column_kind (of_kind k) ≡ Some k
column_is kind.Bool = refl
column_is kind.Int = refl
column_is kind.Text = refl
column_is kind.Time = refl

row_fits : (k : Kind) (key : SeriesKey) (v : ℤ × Scalar) → IsEntry k v → RowFits (row_of_kind (of_kind k)) (row_at key v)
row_fits k key v is =
    put_fits _ _ (codes "_measurement") g_text (scalar.Text key.measurement)
    (put_fits _ _ (codes "_field") g_text (scalar.Text key.field)
    (put_fits _ _ (codes "_time") g_time (scalar.Time v.0)
    (put_fits _ _ (codes "_value") (of_kind k) v.1 (tags_fit key.tags empty nothing_fits) (subst (λ c. IsTrue (is_cell c v.1)) (sym (column_is k)) is.1)) is.0) refl) refl

rows_fit : (k : Kind) (key : SeriesKey) (vs : List (ℤ × Scalar)) → AllByRecursion (IsEntry k) vs → AllByRecursion (RowFits (row_of_kind (of_kind k))) (map (row_at key) vs)
rows_fit k key [] h = tt
rows_fit k key (v ∷ vs) h = (row_fits k key v h.0, rows_fit k key vs h.1)

-- ---- the key of a series

-- tags have no label of the engine's own
tags_lack : (x : Label) → starts_with nat_eq x (95 ∷ []) ≡ true → (tags : List Tag) (row : Row) → AllByRecursion (λ tag. starts_with nat_eq tag.key (95 ∷ []) ≡ false) tags → get row x ≡ None → get (with_tags row tags) x ≡ None
tags_lack x own [] row h none = none
tags_lack x own (tag ∷ tags) row h none =
    tags_lack x own tags (insert row tag.key (scalar.Text tag.value)) h.1
    (get_inserted row tag.key (scalar.Text tag.value) x ∙ passed (same_text x tag.key) (Some (scalar.Text tag.value)) (get row x) (other (same_text x tag.key) refl) ∙ none)
  where
    other : (c : Bool) → c ≡ same_text x tag.key → same_text x tag.key ≡ false
    other false e = sym e
    other true e = absurd (false≢true (sym h.0 ∙ ap (λ l. starts_with nat_eq l (95 ∷ [])) (sym (equal_text x tag.key e)) ∙ own))

abbrev named_alone : GroundRow
named_alone = put (codes "_measurement") g_text (put (codes "_field") g_text texts_alone)

named_fits : (key : SeriesKey) → RowFits named_alone (named key (with_tags empty key.tags))
named_fits key =
    put_fits _ _ (codes "_measurement") g_text (scalar.Text key.measurement) (put_fits _ _ (codes "_field") g_text (scalar.Text key.field) (tags_fit key.tags empty nothing_fits) refl) refl

-- of the columns that name a series none is its time or its value
key_row_fits : (k : Kind) (key : SeriesKey) → AllByRecursion (λ tag. starts_with nat_eq tag.key (95 ∷ []) ≡ false) key.tags → (l : Label) (a : Scalar) → get (named key (with_tags empty key.tags)) l ≡ Some a
    → IsTrue (is_column_of (row_of_kind (of_kind k) l) (Some a))
key_row_fits k key tags l a has =
    at (same_text l (codes "_time")) (same_text l (codes "_value")) refl refl (same_text l (codes "_measurement")) (same_text l (codes "_field"))
    (subst (λ o. IsTrue (is_column_of (named_alone l) o)) has (named_fits key l))
  where
    lacks : (x : Label) → starts_with nat_eq x (95 ∷ []) ≡ true → same_text x (codes "_measurement") ≡ false → same_text x (codes "_field") ≡ false → get (named key (with_tags empty key.tags)) x ≡ None
    lacks x own m f =
        get_inserted _ (codes "_measurement") (scalar.Text key.measurement) x ∙ passed (same_text x (codes "_measurement")) _ _ m
        ∙ get_inserted _ (codes "_field") (scalar.Text key.field) x ∙ passed (same_text x (codes "_field")) _ _ f ∙ tags_lack x own key.tags empty tags (get-empty text_cmp x)

    no_value : (x : Label) → true ≡ same_text l x → get (named key (with_tags empty key.tags)) x ≡ None → ⊥
    no_value x e none = let clash : None ≡ Some a = sym none ∙ ap (get (named key (with_tags empty key.tags))) (sym (equal_text l x e)) ∙ has in cc

    at : (c d : Bool) → c ≡ same_text l (codes "_time") → d ≡ same_text l (codes "_value") → (m f : Bool)
        → IsTrue (is_column_of (if m then g_is g_text else (if f then g_is g_text else g_is g_text)) (Some a))
        → IsTrue (is_column_of (if m then g_is g_text else (if f then g_is g_text else (if c then g_is g_time else (if d then g_is (of_kind k) else g_is g_text)))) (Some a))
    at true d e g m f h = absurd (no_value (codes "_time") e (lacks (codes "_time") refl refl refl))
    at false true e g m f h = absurd (no_value (codes "_value") g (lacks (codes "_value") refl refl refl))
    at false false e g true f h = h
    at false false e g false true h = h
    at false false e g false false h = h

entries_fit : (k : Kind) (key : SeriesKey) → AllByRecursion (λ tag. starts_with nat_eq tag.key (95 ∷ []) ≡ false) key.tags → (es : List (Label × Scalar))
    → AllByRecursion (λ e. get (named key (with_tags empty key.tags)) e.0 ≡ Some e.1) es → AllByRecursion (EntryFits (row_of_kind (of_kind k))) (map column_entry es)
entries_fit k key tags [] h = tt
entries_fit k key tags (e ∷ es) h = (key_row_fits k key tags e.0 e.1 h.0, entries_fit k key tags es h.1)

key_fits : (k : Kind) (key : SeriesKey) → AllByRecursion (λ tag. starts_with nat_eq tag.key (95 ∷ []) ≡ false) key.tags → KeyFits (row_of_kind (of_kind k)) (key_of key)
key_fits k key tags =
    let row = named key (with_tags empty key.tags) in
    (columns_rise row, entries_fit k key tags (entries row) (entries_found row))

-- ---- the values of a series

abbrev IsPoint : Kind → Point → Type 0
IsPoint k p = IsEntry k (p.time, p.value)

entry_all : (k : Kind) (t : ℤ) (v : Scalar) (es : List (ℤ × Scalar)) → IsEntry k (t, v) → AllByRecursion (IsEntry k) es → AllByRecursion (IsEntry k) (insert_entry int_cmp es t v)
entry_all k t v [] is all = (is, tt)
entry_all k t v (e ∷ es) is all =
    elim (int_cmp t e.0) as (λ o. AllByRecursion (IsEntry k) (match_ordering o ((t, v) ∷ e ∷ es) ((e.0, v) ∷ es) (e ∷ insert_entry int_cmp es t v))) [
      | Less ↦ (is, all)
      | Equal ↦ ((all.0.0, is.1), all.1)
      | Greater ↦ (all.0, entry_all k t v es is all.1)
    ]

entries_all : (k : Kind) (ps : List Point) (es : List (ℤ × Scalar)) → AllByRecursion (IsPoint k) ps → AllByRecursion (IsEntry k) es → AllByRecursion (IsEntry k) (fold (λ entries p. insert_entry int_cmp entries p.time p.value) es ps)
entries_all k [] es h all = all
entries_all k (p ∷ ps) es h all = entries_all k ps (insert_entry int_cmp es p.time p.value) h.1 (entry_all k p.time p.value es h.0 all)

value_fits : (k : Kind) (a : Scalar) → same_kind (Some k) (kind_of a) ≡ true → IsStorable a → IsTrue (is_cell (Some k) a)
value_fits kind.Bool (scalar.Bool b) e h = refl
value_fits kind.Int (scalar.Int n) e h = fits_test n h
value_fits kind.Text (scalar.Text t) e h = refl
value_fits kind.Bool _ e h = absurd (false≢true e)
value_fits kind.Int _ e h = absurd (false≢true e)
value_fits kind.Text _ e h = absurd (false≢true e)
value_fits kind.Time scalar.Null e h = absurd (false≢true e)
value_fits kind.Time (scalar.Time t) e h = absurd h
value_fits kind.Time _ e h = absurd (false≢true e)

kinds_meet : (k : Kind) (o p : Option Kind) → same_kind (Some k) o ≡ true → same_kind o p ≡ true → same_kind (Some k) p ≡ true
kinds_meet kind.Bool (Some kind.Bool) p e f = f
kinds_meet kind.Int (Some kind.Int) p e f = f
kinds_meet kind.Text (Some kind.Text) p e f = f
kinds_meet kind.Time (Some kind.Time) p e f = f
kinds_meet kind.Bool _ p e f = absurd (false≢true e)
kinds_meet kind.Int _ p e f = absurd (false≢true e)
kinds_meet kind.Text _ p e f = absurd (false≢true e)
kinds_meet kind.Time _ p e f = absurd (false≢true e)

points_all : (k : Kind) (id : SeriesId) (points : List StoredPoint) → same_kind (Some k) id.kind ≡ true → AllByRecursion (λ s. IsLawful s.point) points → AllByRecursion (IsPoint k) (points_of id points)
points_all k id [] same h = tt
points_all k id (s ∷ points) same h = step (same_id id (id_of s)) refl (points_all k id points same h.1)
  where
    step : (c : Bool) → c ≡ same_id id (id_of s) → AllByRecursion (IsPoint k) (points_of id points)
        → AllByRecursion (IsPoint k) (map (λ s. s.point) (if c then s ∷ filter (λ s. same_id id (id_of s)) points else filter (λ s. same_id id (id_of s)) points))
    step true e rest = (
      (
        fits_test s.point.time h.0.time,
        value_fits k s.point.value (kinds_meet k id.kind (kind_of s.point.value) same (and_parts (same_name id (id_of s)) (same_kind id.kind (kind_of s.point.value)) (sym e)).1) h.0.value,
      ),
      rest,
    )
    step false e rest = rest

-- ---- all series

-- the tags of a series
abbrev HasTags : SeriesId → Type 0
HasTags id = AllByRecursion (λ tag. starts_with nat_eq tag.key (95 ∷ []) ≡ false) id.key.tags

ids_have : (points : List StoredPoint) → AllByRecursion (λ s. IsLawful s.point) points → AllByRecursion HasTags (map id_of points)
ids_have [] h = tt
ids_have (s ∷ points) h = (one_by_one (λ tag. starts_with nat_eq tag.key (95 ∷ []) ≡ false) s.point.series.tags h.0.keys, ids_have points h.1)

first_have : (ids : List SeriesId) → AllByRecursion HasTags ids → AllByRecursion HasTags (first_seen ids)
first_have [] h = tt
first_have (id ∷ ids) h = (h.0, some (first_seen ids) (first_have ids h.1))
  where
    some : (ids : List SeriesId) → AllByRecursion HasTags ids → AllByRecursion HasTags (filter (λ b. not (same_id id b)) ids)
    some [] h = tt
    some (b ∷ ids) h =
        elim (not (same_id id b)) as (λ c. AllByRecursion HasTags (if c then b ∷ filter (λ b. not (same_id id b)) ids else filter (λ b. not (same_id id b)) ids)) [
          | true ↦ (h.0, some ids h.1)
          | false ↦ some ids h.1
        ]

module _ (k : Kind) (bucket : Label) (points : List StoredPoint) (lawful : AllByRecursion (λ s. IsLawful s.point) points) where
  series_fit : (ids : List SeriesId) → AllByRecursion HasTags ids → TablesFit (row_of_kind (of_kind k)) (map series_table (filter (is_wanted k bucket) (map (series_of points) ids)))
  series_fit [] tags = tt
  series_fit (id ∷ ids) tags = step (is_wanted k bucket (series_of points id)) refl (series_fit ids tags.1)
    where
      step : (c : Bool) → c ≡ is_wanted k bucket (series_of points id) → TablesFit (row_of_kind (of_kind k)) (map series_table (filter (is_wanted k bucket) (map (series_of points) ids)))
          → TablesFit (row_of_kind (of_kind k)) (map series_table (if c then series_of points id ∷ filter (is_wanted k bucket) (map (series_of points) ids) else filter (is_wanted k bucket) (map (series_of points) ids)))
      step true e rest =
          let same = (and_parts (same_text bucket id.bucket) (same_kind (Some k) id.kind) (sym e)).1 in (
            (key_fits k id.key tags.0, rows_fit k id.key (by_time (points_of id points)) (entries_all k (points_of id points) [] (points_all k id points same lawful) tt)),
            rest,
          )
      step false e rest = rest

  pub source_fits : TablesFit (row_of_kind (of_kind k)) (source_tables k bucket points)
  unfolding source_tables
  source_fits = gathered_all (row_of_kind (of_kind k)) _ (series_fit (first_seen (map id_of points)) (first_have (map id_of points) (ids_have points lawful)))
