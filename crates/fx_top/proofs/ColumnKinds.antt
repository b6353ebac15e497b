-- Each column of a table of a run has values of one kind.
use Rattle.std.proofs.Common.{◌≡◌, ℕ, ℤ, Bool, true, false, ◌&&◌, List, [], ◌∷◌, map, filter, filter_map, cond, refl, sym, ◌∙◌, ap, subst}
use Rattle.std.specs.Prelude.{Option, None, Some, All, codes, unwrap_or}
use Rattle.std.specs.Ordering.{eq_by_cmp}
use Rattle.std.specs.Option.{option_map, option_or}
use Rattle.std.specs.List.{AllByRecursion, list_all, slice_index_or, cons_option}
use Rattle.std.specs.Cmp.Lexicographic.{nat_list_cmp_total}
use Rattle.std.specs.FinMap as fin
use Rattle.std.specs.FinMap.{FinMap}
use Rattle.std.specs.FinMap.Entries.{find}
use Rattle.std.proofs.lemmas.List.Elements.{All-from_recursion}
use Rattle.fx_base.specs.Text.{text_cmp}
use Rattle.fx_value.specs.declared.scalar.Kind.{Kind}
use Rattle.fx_value.specs.declared.scalar.Kind.TheVariants as kind
use Rattle.fx_value.specs.declared.scalar.Scalar.{Scalar}
use Rattle.fx_value.specs.declared.scalar.Scalar.TheVariants as scalar
use Rattle.fx_value.specs.declared.source.Source.{Source}
use Rattle.fx_value.specs.declared.source.Source.TheVariants.{Fixed, First, Second}
use Rattle.fx_value.specs.Row.{row_of, shared, shared_cell}
use Rattle.fx_value.specs.Scalar.{kind_of}
use Rattle.fx_value.specs.Source as source
use Rattle.fx_value.proofs.Rows.{get-row_of}
use Rattle.fx_data.specs.declared.key.Key.{Key}
use Rattle.fx_data.specs.declared.key.KeyEntry.{KeyEntry}
use Rattle.fx_data.specs.declared.table.Table.{Table}
use Rattle.fx_data.specs.Shared.{column_entry, key_of}
use Rattle.fx_data.proofs.GatheredRows.{EachRow, gathered_rows}
use Rattle.fx_line.specs.declared.point.SeriesKey.{SeriesKey}
use Rattle.fx_line.specs.declared.point.Tag.{Tag}
use Rattle.fx_line.specs.Stored.{StoredPoint, Series, first_seen, id_of}
use Rattle.fx_series.specs.Read.{is_in}
use Rattle.fx_series.specs.Store.{Kept, StandsFor}
use Rattle.fx_series.proofs.Same.{kind_decides}
use Rattle.fx_series.proofs.ValueKinds.{AreOfKind, IsOfItsKind, series-of_kind}
use Rattle.fx_csv.specs.Cells.{is_one_kind, same_kind}
use Rattle.fx_csv.specs.Printed.{HasOneKind, pinned_value, value_at}
use Rattle.fx_top.specs.declared.query.Query.{Query}
use Rattle.fx_top.specs.Run.{Columns, with_shared, with_tags, named, columns_of, is_within, table_of, has_rows, tables_of}

-- ---- the columns that all rows share

-- the label has no source, or one whose value all rows share
abbrev pub IsShared : Option Source → Type 0
IsShared None = Unit {0}
IsShared (Some (Fixed value)) = Unit {0}
IsShared (Some First) = ⊥
IsShared (Some Second) = ⊥

-- the value that all rows share
abbrev pub shared_value : Option Source → Option Scalar
shared_value None = None
shared_value (Some (Fixed value)) = Some value
shared_value (Some First) = None
shared_value (Some Second) = None

abbrev pub AreShared : Columns → Type 0
AreShared columns = (label : List ℕ) → IsShared (fin.get columns label)

with_shared-shares : (columns : Columns) (k : List ℕ) (v : Scalar) → AreShared columns → AreShared (with_shared columns k v)
with_shared-shares columns k v h label =
    subst IsShared (sym (fin.get-insert nat_list_cmp_total columns k (Fixed v) label))
    (elim (eq_by_cmp text_cmp label k) as (λ b. IsShared (cond b (Some (Fixed v)) (fin.get columns label))) [
      | true ↦ tt
      | false ↦ h label
    ])

with_tags-shares : (columns : Columns) (tags : List Tag) → AreShared columns → AreShared (with_tags columns tags)
with_tags-shares columns [] h = h
with_tags-shares columns (tag ∷ tags) h =
    with_tags-shares (with_shared columns tag.key (scalar.Text tag.value)) tags (with_shared-shares columns tag.key (scalar.Text tag.value) h)

none-shares : AreShared fin.empty
none-shares label = subst IsShared (sym (fin.get-empty text_cmp label)) tt

pub named-shares : (q : Query) (key : SeriesKey) → AreShared (named q key)
named-shares q key =
    with_shared-shares _ _ _ (with_shared-shares _ _ _ (with_shared-shares _ _ _ (with_shared-shares _ _ _
    (with_tags-shares fin.empty key.tags none-shares))))

-- ---- what a key says of a label

abbrev pub key_value : List KeyEntry → List ℕ → Option Scalar
key_value [] label = None
key_value (e ∷ entries) label = cond (eq_by_cmp text_cmp label e.label) (Some e.value) (key_value entries label)

-- the key has the value that the rows share
pub key_value-is : (label : List ℕ) (es : List (List ℕ × Source)) → IsShared (find text_cmp label es)
    → key_value (map column_entry (filter_map shared_cell es)) label ≡ shared_value (find text_cmp label es)
key_value-is label [] h = refl
key_value-is label ((l, Fixed v) ∷ es) h =
    elim (eq_by_cmp text_cmp label l) as (λ b. IsShared (cond b (Some (Fixed v)) (find text_cmp label es))
    → cond b (Some v) (key_value (map column_entry (filter_map shared_cell es)) label) ≡ shared_value (cond b (Some (Fixed v)) (find text_cmp label es))) [
      | true ↦ λ g. refl
      | false ↦ λ g. key_value-is label es g
    ] h
key_value-is label ((l, First) ∷ es) h =
    elim (eq_by_cmp text_cmp label l) as (λ b. IsShared (cond b (Some First) (find text_cmp label es))
    → key_value (map column_entry (filter_map shared_cell es)) label ≡ shared_value (cond b (Some First) (find text_cmp label es))) [
      | true ↦ λ g. absurd g
      | false ↦ λ g. key_value-is label es g
    ] h
key_value-is label ((l, Second) ∷ es) h =
    elim (eq_by_cmp text_cmp label l) as (λ b. IsShared (cond b (Some Second) (find text_cmp label es))
    → key_value (map column_entry (filter_map shared_cell es)) label ≡ shared_value (cond b (Some Second) (find text_cmp label es))) [
      | true ↦ λ g. absurd g
      | false ↦ λ g. key_value-is label es g
    ] h

-- nothing in such a key is pinned
none_pinned : (label : List ℕ) (cells : List (List ℕ × Scalar)) → pinned_value (map column_entry cells) label ≡ None
none_pinned label [] = refl
none_pinned label (cell ∷ cells) = none_pinned label cells

-- ---- the kind of a column, by the key alone

abbrev kind_for : List ℕ → List KeyEntry → Option Kind
kind_for label entries =
    cond (eq_by_cmp text_cmp label (codes "_value")) (Some kind.Int)
    (cond (eq_by_cmp text_cmp label (codes "_time")) (Some kind.Time) (kind_of (unwrap_or (key_value entries label) scalar.Null)))

-- what stands at a label in a row under a key is of the kind for it
abbrev HasKindAt : List ℕ → Key → FinMap text_cmp Scalar → Type 0
HasKindAt label key row =
    kind_of (unwrap_or (option_or (pinned_value key.entries label) (fin.get row label)) scalar.Null) ≡ kind_for label key.entries

row_shares : (a b : Scalar) (o : Option Source) → IsShared o → option_map (source.value_at a b) o ≡ shared_value o
row_shares a b None h = refl
row_shares a b (Some (Fixed v)) h = refl
row_shares a b (Some First) h = absurd h
row_shares a b (Some Second) h = absurd h

kind_by : (time : ℤ) (v : Scalar) → kind_of v ≡ Some kind.Int → (is_value is_time : Bool) (o at : Option Source) (said : Option Scalar)
    → at ≡ cond is_value (Some Second) (cond is_time (Some First) o) → IsShared o → (IsShared at → said ≡ shared_value at)
    → kind_of (unwrap_or (option_map (source.value_at (scalar.Time time) v) at) scalar.Null)
    ≡ cond is_value (Some kind.Int) (cond is_time (Some kind.Time) (kind_of (unwrap_or said scalar.Null)))
kind_by time v int true is_time o at said is h key = ap (λ (x : Option Source). kind_of (unwrap_or (option_map (source.value_at (scalar.Time time) v) x) scalar.Null)) is ∙ int
kind_by time v int false true o at said is h key = ap (λ (x : Option Source). kind_of (unwrap_or (option_map (source.value_at (scalar.Time time) v) x) scalar.Null)) is
kind_by time v int false false o at said is h key =
    let here : IsShared at = subst IsShared (sym is) h in
    ap (λ (x : Option Scalar). kind_of (unwrap_or x scalar.Null)) (row_shares (scalar.Time time) v at here ∙ sym (key here))

row_kind : (label : List ℕ) (columns : Columns) → AreShared columns → (time : ℤ) (v : Scalar) → kind_of v ≡ Some kind.Int → (head : Columns)
    → head ≡ fin.insert (fin.insert columns (codes "_time") First) (codes "_value") Second → HasKindAt label (key_of head) (row_of head (scalar.Time time) v)
row_kind label columns h time v int head is =
    ap (λ (o : Option Scalar). kind_of (unwrap_or (option_or o (fin.get (row_of head (scalar.Time time) v) label)) scalar.Null)) (none_pinned label (shared head))
    ∙ ap (λ (o : Option Scalar). kind_of (unwrap_or o scalar.Null)) (get-row_of (scalar.Time time) v head label)
    ∙ kind_by time v int (eq_by_cmp text_cmp label (codes "_value")) (eq_by_cmp text_cmp label (codes "_time")) (fin.get columns label) (fin.get head label) (key_value (key_of head).entries label)
    (ap (λ (c : Columns). fin.get c label) is
    ∙ fin.get-insert nat_list_cmp_total (fin.insert columns (codes "_time") First) (codes "_value") Second label
    ∙ ap (cond (eq_by_cmp text_cmp label (codes "_value")) (Some Second)) (fin.get-insert nat_list_cmp_total columns (codes "_time") First label))
    (h label)
    (λ g. key_value-is label (fin.entries head) (subst IsShared (fin.get-entries head label) g) ∙ ap shared_value (sym (fin.get-entries head label)))

-- ---- the rows of the tables

second_so : (a b : Bool) → (a && b) ≡ true → b ≡ true
second_so true b h = h
second_so false b h = cc

module _ (q : Query) (label : List ℕ) where
  rows_kinds : (key : SeriesKey) (values : List (ℤ × Scalar)) → AreOfKind (Some kind.Int) values
      → AllByRecursion (HasKindAt label (key_of (columns_of q key))) (map (λ v. row_of (columns_of q key) (scalar.Time v.0) v.1) (filter (is_within q.start q.stop) values))
  rows_kinds key [] h = tt
  rows_kinds key (v ∷ values) h =
      elim (is_within q.start q.stop v) as (λ b. AllByRecursion (HasKindAt label (key_of (columns_of q key)))
      (map (λ w. row_of (columns_of q key) (scalar.Time w.0) w.1) (cond b (v ∷ filter (is_within q.start q.stop) values) (filter (is_within q.start q.stop) values)))) [
        | true ↦ (row_kind label (named q key) (named-shares q key) v.0 v.1 h.0 (columns_of q key) refl, rows_kinds key values h.1)
        | false ↦ rows_kinds key values h.1
      ]

  table_kinds : (s : Series) → is_in q.bucket kind.Int s ≡ true → IsOfItsKind s → EachRow (HasKindAt label) (table_of q s)
  table_kinds s in' h = rows_kinds s.id.key s.values (subst (λ (o : Option Kind). AreOfKind o s.values) ((kind_decides s.id.kind (Some kind.Int)).0 (second_so _ _ in')) h)

  with_rows_kinds : (ts : List Table) → AllByRecursion (EachRow (HasKindAt label)) ts → AllByRecursion (EachRow (HasKindAt label)) (filter has_rows ts)
  with_rows_kinds [] h = tt
  with_rows_kinds (t ∷ ts) h =
      elim (has_rows t) as (λ b. AllByRecursion (EachRow (HasKindAt label)) (cond b (t ∷ filter has_rows ts) (filter has_rows ts))) [
        | true ↦ (h.0, with_rows_kinds ts h.1)
        | false ↦ with_rows_kinds ts h.1
      ]

  tables_kinds : (series : List Series) → AllByRecursion IsOfItsKind series → AllByRecursion (EachRow (HasKindAt label)) (map (table_of q) (filter (is_in q.bucket kind.Int) series))
  tables_kinds [] h = tt
  tables_kinds (s ∷ series) h =
      elim (is_in q.bucket kind.Int s) as (λ b. is_in q.bucket kind.Int s ≡ b
      → AllByRecursion (EachRow (HasKindAt label)) (map (table_of q) (cond b (s ∷ filter (is_in q.bucket kind.Int) series) (filter (is_in q.bucket kind.Int) series)))) [
        | true ↦ λ e. (table_kinds s e h.0, tables_kinds series h.1)
        | false ↦ λ e. tables_kinds series h.1
      ] refl

  run_kinds : (series : List Series) → AllByRecursion IsOfItsKind series → AllByRecursion (EachRow (HasKindAt label)) (tables_of q series)
  run_kinds series h = gathered_rows (HasKindAt label) _ (with_rows_kinds _ (tables_kinds series h))

-- ---- one kind in each column

same_itself : (k : Kind) → same_kind k k ≡ true
same_itself kind.Bool = refl
same_itself kind.Int = refl
same_itself kind.Text = refl
same_itself kind.Time = refl

module _ {X : Type 0} (f : X → Scalar) where
  none_of_kind : (xs : List X) → AllByRecursion (λ x. kind_of (f x) ≡ None) xs → filter_map kind_of (map f xs) ≡ []
  none_of_kind [] h = refl
  none_of_kind (x ∷ xs) h = ap (λ (o : Option Kind). cons_option o (filter_map kind_of (map f xs))) h.0 ∙ none_of_kind xs h.1

  all_of_kind : (k : Kind) (xs : List X) → AllByRecursion (λ x. kind_of (f x) ≡ Some k) xs → list_all (same_kind k) (filter_map kind_of (map f xs)) ≡ true
  all_of_kind k [] h = refl
  all_of_kind k (x ∷ xs) h =
      ap (λ (o : Option Kind). list_all (same_kind k) (cons_option o (filter_map kind_of (map f xs)))) h.0
      ∙ ap (λ (b : Bool). b && list_all (same_kind k) (filter_map kind_of (map f xs))) (same_itself k) ∙ all_of_kind k xs h.1

  one_kind_of : (o : Option Kind) (xs : List X) → AllByRecursion (λ x. kind_of (f x) ≡ o) xs → is_one_kind (filter_map kind_of (map f xs)) ≡ true
  one_kind_of None xs h = ap is_one_kind (none_of_kind xs h)
  one_kind_of (Some k) [] h = refl
  one_kind_of (Some k) (x ∷ xs) h =
      ap (λ (o : Option Kind). is_one_kind (cons_option o (filter_map kind_of (map f xs)))) h.0 ∙ all_of_kind k xs h.1

-- each table of a run over a store has one kind in each column
pub one_kind : (q : Query) (kept : Kept) (buckets : List (List ℕ)) (stored : List StoredPoint) → StandsFor kept buckets stored → All HasOneKind (tables_of q kept.series)
one_kind q kept buckets stored h = λ i d below label.
    let series : AllByRecursion IsOfItsKind kept.series = subst (AllByRecursion IsOfItsKind) (sym h.series_are) (series-of_kind stored (first_seen (map id_of stored))) in
    let table = slice_index_or (tables_of q kept.series) i d in
    one_kind_of (value_at table label) (kind_for label table.key.entries) table.rows
    (All-from_recursion (EachRow (HasKindAt label)) (tables_of q kept.series) (run_kinds q label kept.series series) i d below)
