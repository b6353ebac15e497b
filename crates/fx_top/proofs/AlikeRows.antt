-- The rows of each table of a run have the same labels.
use Rattle.std.proofs.Common.{◌≡◌, ℕ, ℤ, Bool, true, false, List, [], ◌∷◌, map, filter, cond, refl, sym, ◌∙◌, ap, subst}
use Rattle.std.specs.Prelude.{Option, None, Some, All, codes}
use Rattle.std.specs.Ordering.{eq_by_cmp}
use Rattle.std.specs.Option.{is_some}
use Rattle.std.specs.List.{AllByRecursion, slice_index_or}
use Rattle.std.specs.Cmp.Lexicographic.{nat_list_cmp_total}
use Rattle.std.specs.FinMap as fin
use Rattle.std.specs.FinMap.{FinMap}
use Rattle.std.proofs.lemmas.List.Elements.{All-from_recursion}
use Rattle.fx_base.specs.Text.{text_cmp}
use Rattle.fx_value.specs.declared.scalar.Scalar.{Scalar}
use Rattle.fx_value.specs.declared.scalar.Scalar.TheVariants as scalar
use Rattle.fx_value.specs.declared.scalar.Kind.TheVariants as kind
use Rattle.fx_value.specs.declared.source.Source.{Source}
use Rattle.fx_value.specs.declared.source.Source.TheVariants.{Fixed, First, Second}
use Rattle.fx_value.specs.Row.{row_of}
use Rattle.fx_value.specs.Source as source
use Rattle.fx_value.proofs.LabelLaws.{same_keys}
use Rattle.fx_value.proofs.Rows.{entries-row_of, keys-mapped}
use Rattle.fx_data.specs.declared.key.Key.{Key}
use Rattle.fx_data.specs.declared.key.KeyEntry.{KeyEntry}
use Rattle.fx_data.specs.declared.table.Table.{Table}
use Rattle.fx_data.specs.Shared.{key_of}
use Rattle.fx_data.proofs.GatheredRows.{EachRow, gathered_rows}
use Rattle.fx_line.specs.declared.point.SeriesKey.{SeriesKey}
use Rattle.fx_line.specs.Stored.{Series}
use Rattle.fx_series.specs.Read.{is_in}
use Rattle.fx_csv.specs.Alike.{AreAlike, HasAlikeRows}
use Rattle.fx_top.specs.declared.query.Query.{Query}
use Rattle.fx_top.specs.Run.{Columns, named, columns_of, is_within, table_of, has_rows, tables_of}
use Rattle.fx_top.proofs.ColumnKinds.{AreShared, IsShared, key_value, key_value-is, named-shares, shared_value}

-- whether a row under a key has a label
abbrev has_label : List KeyEntry → List ℕ → Bool
has_label entries label =
    cond (eq_by_cmp text_cmp label (codes "_value")) true
    (cond (eq_by_cmp text_cmp label (codes "_time")) true (is_some (key_value entries label)))

-- the row has the labels of its key, a time and a value
record IsLabelled (key : Key) (row : FinMap text_cmp Scalar) : Type 0 where
  columns : Columns
  keys : fin.keys row ≡ fin.keys columns
  has : (label : List ℕ) → is_some (fin.get columns label) ≡ has_label key.entries label

said_is : (o : Option Source) (said : Option Scalar) → IsShared o → said ≡ shared_value o → is_some o ≡ is_some said
said_is None said h e = ap is_some (sym e)
said_is (Some (Fixed v)) said h e = ap is_some (sym e)
said_is (Some First) said h e = absurd h
said_is (Some Second) said h e = absurd h

label_by : (is_value is_time : Bool) (o at : Option Source) (said : Option Scalar)
    → at ≡ cond is_value (Some Second) (cond is_time (Some First) o) → IsShared o → (IsShared at → said ≡ shared_value at)
    → is_some at ≡ cond is_value true (cond is_time true (is_some said))
label_by true is_time o at said is h key = ap is_some is
label_by false true o at said is h key = ap is_some is
label_by false false o at said is h key =
    let here : IsShared at = subst IsShared (sym is) h in
    said_is at said here (key here)

columns_have : (columns head : Columns) → AreShared columns → head ≡ fin.insert (fin.insert columns (codes "_time") First) (codes "_value") Second
    → (label : List ℕ) → is_some (fin.get head label) ≡ has_label (key_of head).entries label
columns_have columns head h is label =
    label_by (eq_by_cmp text_cmp label (codes "_value")) (eq_by_cmp text_cmp label (codes "_time")) (fin.get columns label) (fin.get head label) (key_value (key_of head).entries label)
    (ap (λ (c : Columns). fin.get c label) is
    ∙ fin.get-insert nat_list_cmp_total (fin.insert columns (codes "_time") First) (codes "_value") Second label
    ∙ ap (cond (eq_by_cmp text_cmp label (codes "_value")) (Some Second)) (fin.get-insert nat_list_cmp_total columns (codes "_time") First label))
    (h label)
    (λ g. key_value-is label (fin.entries head) (subst IsShared (fin.get-entries head label) g) ∙ ap shared_value (sym (fin.get-entries head label)))

-- ---- the rows of the tables

module _ (q : Query) where
  rows_labelled : (key : SeriesKey) (values : List (ℤ × Scalar))
      → AllByRecursion (IsLabelled (key_of (columns_of q key))) (map (λ v. row_of (columns_of q key) (scalar.Time v.0) v.1) values)
  rows_labelled key [] = tt
  rows_labelled key (v ∷ values) = (
    record {
      columns = columns_of q key;
      keys = ap (map (λ e. e.0)) (entries-row_of (scalar.Time v.0) v.1 (columns_of q key)) ∙ keys-mapped (source.value_at (scalar.Time v.0) v.1) (fin.entries (columns_of q key));
      has = columns_have (named q key) (columns_of q key) (named-shares q key) refl;
    },
    rows_labelled key values,
  )

  kept_labelled : (b : Bool) (t : Table) (ts : List Table) → EachRow IsLabelled t → AllByRecursion (EachRow IsLabelled) ts → AllByRecursion (EachRow IsLabelled) (cond b (t ∷ ts) ts)
  kept_labelled true t ts h hs = (h, hs)
  kept_labelled false t ts h hs = hs

  tables_labelled : (wanted : List Series) → AllByRecursion (EachRow IsLabelled) (filter has_rows (map (table_of q) wanted))
  tables_labelled [] = tt
  tables_labelled (s ∷ wanted) =
      kept_labelled (has_rows (table_of q s)) (table_of q s) (filter has_rows (map (table_of q) wanted))
      (rows_labelled s.id.key (filter (is_within q.start q.stop) s.values)) (tables_labelled wanted)

-- ---- the same labels

same_labels : (key : Key) (a b : FinMap text_cmp Scalar) → IsLabelled key a → IsLabelled key b → fin.keys b ≡ fin.keys a
same_labels key a b h g =
    g.keys
    ∙ same_keys g.columns h.columns (λ label there. g.has label ∙ sym (h.has label) ∙ there) (λ label there. h.has label ∙ sym (g.has label) ∙ there)
    ∙ sym h.keys

like_first : (key : Key) (row : FinMap text_cmp Scalar) (rows : List (FinMap text_cmp Scalar)) → IsLabelled key row → AllByRecursion (IsLabelled key) rows
    → AllByRecursion (λ other. fin.keys other ≡ fin.keys row) rows
like_first key row [] h hs = tt
like_first key row (other ∷ rows) h hs = (same_labels key row other h hs.0, like_first key row rows h hs.1)

alike_rows : (key : Key) (rows : List (FinMap text_cmp Scalar)) → AllByRecursion (IsLabelled key) rows → AreAlike rows
alike_rows key [] h = tt
alike_rows key (row ∷ rows) h = like_first key row rows h.0 h.1

-- the rows of each table of a run are alike
pub all_alike : (q : Query) (series : List Series) → All HasAlikeRows (tables_of q series)
all_alike q series = λ i d below.
    let table = slice_index_or (tables_of q series) i d in
    alike_rows table.key table.rows
    (All-from_recursion (EachRow IsLabelled) (tables_of q series) (gathered_rows IsLabelled _ (tables_labelled q (filter (is_in q.bucket kind.Int) series))) i d below)
