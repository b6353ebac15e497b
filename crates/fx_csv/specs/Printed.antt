-- Annotated CSV: the bytes of a yield. It is InfluxDB's annotated CSV, with the quotes of RFC 4180.
--
-- A yield prints its tables in key order, numbered from 0. Its tables are cut into blocks. A block is the longest run,
-- from its first table, of tables that have the same columns and the same key labels, pinned or not, such that the
-- values of each column over the run that aren't null have one kind. A yield without tables prints nothing.
--
-- The columns of a table are its key labels and the labels of its rows. They stand in the order `_start`, `_stop`,
-- `_time`, `_value`, `_field`, `_measurement`, and then the others by their bytes. A block is these records, each ended
-- by CR LF, and then an empty line, CR LF:
-- 1. `#datatype`, `string`, `long`, and the datatype of each column
-- 2. `#group`, `false`, `false`, and for each column whether it is a key label
-- 3. `#default`, the yield's name, and an empty field for `table` and for each column
-- 4. an empty field, `result`, `table`, and the labels
-- 5. for each row an empty field, an empty field, the table's number and the values
--
-- A pinned label's value stands in each row of its table. A label that a row lacks is a null there. Table numbers go on
-- through all blocks of the yield.
use Rattle.std.specs.Prelude.{ℕ, ◌+◌, Bool, true, ◌&&◌, List, [], ◌∷◌, ◌++◌, length, map, Option, None, Some, codes, decimal, if◌then◌else◌, unwrap_or, IsTrue}
use Rattle.std.specs.Option.{option_or}
use Rattle.std.specs.List.{filter_map, flat_map, fold, list_all, list_any, slice_get}
use Rattle.std.specs.BTreeSet.{insert_key}
use Rattle.std.specs.Cmp.Lexicographic.{pointwise}
use Rattle.std.specs.FinMap as map
use Rattle.fx_base.specs.Text.{text_cmp, same_text}
use Rattle.fx_value.specs.declared.scalar.Kind.{Kind}
use Rattle.fx_value.specs.declared.scalar.Scalar.{Scalar}
use Rattle.fx_value.specs.declared.scalar.Scalar.TheVariants as scalar
use Rattle.fx_value.specs.Scalar.{kind_of}
use Rattle.fx_data.specs.declared.key.KeyEntry.{KeyEntry}
use Rattle.fx_data.specs.declared.table.Table.{Table}
use Rattle.fx_csv.specs.Cells.{bool_text, datatype, is_one_kind, scalar_text}
use Rattle.fx_csv.specs.Columns.{column_cmp}
use Rattle.fx_csv.specs.Records.{line_end, record_bytes}
use Rattle.fx_csv.specs.Runs.{runs}

abbrev pub key_labels : Table → List (List ℕ)
key_labels t = map (λ e. e.label) t.key.entries

-- the labels of the key and of the rows, each once
abbrev pub column_labels : Table → List (List ℕ)
column_labels t = fold (insert_key column_cmp) [] (key_labels t ++ flat_map map.keys t.rows)

-- the value of a label that the key pins
abbrev pub pinned_value : List KeyEntry → List ℕ → Option Scalar
pinned_value [] label = None
pinned_value (e ∷ rest) label = if e.pinned && same_text e.label label then Some e.value else pinned_value rest label

-- what stands in a column of a row
abbrev pub value_at : Table → List ℕ → map.FinMap text_cmp Scalar → Scalar
value_at t label row = unwrap_or (option_or (pinned_value t.key.entries label) (map.get row label)) scalar.Null

-- the kinds of the values of a column that aren't null, in one table and over a run
abbrev pub kinds_in : List ℕ → Table → List Kind
kinds_in label t = filter_map kind_of (map (value_at t label) t.rows)

abbrev pub kinds : List ℕ → List Table → List Kind
kinds label = flat_map (kinds_in label)

-- what printing asks of each table
abbrev pub HasOneKind : Table → Type 0
HasOneKind t = (label : List ℕ) → IsTrue (is_one_kind (kinds_in label t))

abbrev pub same_labels : List (List ℕ) → List (List ℕ) → Bool
same_labels = pointwise same_text

-- two tables may stand in one block as far as their labels go
abbrev pub same_shape : Table → Table → Bool
same_shape t u = same_labels (key_labels t) (key_labels u) && same_labels (column_labels t) (column_labels u)

abbrev pub is_block : List Table → Bool
is_block [] = true
is_block (t ∷ rest) =
    list_all (same_shape t) rest && list_all (λ label. is_one_kind (kinds label (t ∷ rest))) (column_labels t)

abbrev pub is_key_label : Table → List ℕ → Bool
is_key_label t label = list_any (λ e. same_text e.label label) t.key.entries

-- the four records that stand before the rows of a block
abbrev pub head_records : List ℕ → List Table → List (List (List ℕ))
head_records name [] = []
head_records name (t ∷ rest) =
    (codes "#datatype" ∷ codes "string" ∷ codes "long" ∷ map (λ c. datatype (slice_get (kinds c (t ∷ rest)) 0)) (column_labels t))
    ∷ (codes "#group" ∷ codes "false" ∷ codes "false" ∷ map (λ c. bool_text (is_key_label t c)) (column_labels t))
    ∷ (codes "#default" ∷ name ∷ [] ∷ map (λ c. []) (column_labels t))
    ∷ ([] ∷ codes "result" ∷ codes "table" ∷ column_labels t)
    ∷ []

abbrev pub row_record : ℕ → Table → map.FinMap text_cmp Scalar → List (List ℕ)
row_record number t row = [] ∷ [] ∷ decimal number ∷ map (λ c. scalar_text (value_at t c row)) (column_labels t)

-- the rows of tables that are numbered from here on
abbrev pub row_records : ℕ → List Table → List (List (List ℕ))
row_records number [] = []
row_records number (t ∷ rest) = map (row_record number t) t.rows ++ row_records (number + 1) rest

abbrev pub block_bytes : List ℕ → ℕ → List Table → List ℕ
block_bytes name number run = flat_map record_bytes (head_records name run ++ row_records number run) ++ line_end

-- the blocks one after another, where this is the number of the first table
abbrev pub blocks_bytes : List ℕ → ℕ → List (List Table) → List ℕ
blocks_bytes name number [] = []
blocks_bytes name number (run ∷ rest) = block_bytes name number run ++ blocks_bytes name (number + length run) rest

-- what a yield of this name prints for these tables
abbrev pub printed : List ℕ → List Table → List ℕ
printed name tables = blocks_bytes name 0 (runs is_block tables)
