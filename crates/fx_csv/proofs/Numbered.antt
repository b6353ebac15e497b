-- Tables one after another, with their numbers.
use Rattle.std.proofs.Common.{◌≡◌, ℕ, ◌+◌, ◌-◌, ◌<◌, ◌≤◌, true, List, [], ◌∷◌, ◌++◌, length, map, take, drop, get_or, All, refl, ap, sym, ◌∙◌, arith, append_assoc, append-nil}
use Rattle.std.specs.Prelude.{codes}
use Rattle.std.specs.List.{flat_map, list_all, AllByRecursion}
use Rattle.std.specs.Cmp.{first_so, second_so}
use Rattle.std.specs.Cmp.Lexicographic.{pointwise_decides, bytes_decides}
use Rattle.std.proofs.lemmas.List.{take_more, length-take-le, length-drop}
use Rattle.std.proofs.lemmas.List.Concat.{flat_map-append}
use Rattle.std.proofs.lemmas.List.Elements.{All-from_recursion}
use Rattle.fx_data.specs.declared.table.Table.{Table}
use Rattle.fx_csv.specs.declared.block.Block.{Block}
use Rattle.fx_csv.specs.declared.column.Column.{Column}
use Rattle.fx_csv.specs.declared.head.Head.{Head}
use Rattle.fx_csv.specs.declared.head.Head.TheVariants.{Datatype, Group, Default}
use Rattle.fx_csv.specs.Cells.{is_one_kind}
use Rattle.fx_csv.specs.Heads.{head_field, heads}
use Rattle.fx_csv.specs.Printed.{block_bytes, blocks_bytes, printed, column_labels, head_records, is_block, kinds, key_labels, row_record, row_records, same_labels, same_shape}
use Rattle.fx_csv.specs.Records.{record_bytes}
use Rattle.fx_csv.specs.Runs.{runs}
use Rattle.fx_csv.specs.Shapes.{IsFirstBlock, column_of, columns_over}

row_records-push : (number : ℕ) (xs : List Table) (t : Table) → row_records number (xs ++ t ∷ []) ≡ row_records number xs ++ map (row_record (number + length xs) t) t.rows
row_records-push number [] t = append-nil (map (row_record number t) t.rows) ∙ ap (λ n. map (row_record n t) t.rows) (omega arith)
row_records-push number (x ∷ xs) t =
    let later : number + 1 + length xs ≡ number + length (x ∷ xs) = omega arith in
    ap (λ l. map (row_record number x) x.rows ++ l) (row_records-push (number + 1) xs t ∙ ap (λ n. row_records (number + 1) xs ++ map (row_record n t) t.rows) later)
    ∙ sym (append_assoc (map (row_record number x) x.rows) (row_records (number + 1) xs) (map (row_record (number + length (x ∷ xs)) t) t.rows))

-- one more table
pub next_table : (number : ℕ) (ts : List Table) (i : ℕ) (t : Table) (bytes : List ℕ) → i < length ts → t ≡ get_or ts i t
    → (bytes ++ flat_map record_bytes (row_records number (take i ts))) ++ flat_map record_bytes (map (row_record (number + i) t) t.rows)
    ≡ bytes ++ flat_map record_bytes (row_records number (take (i + 1) ts))
next_table number ts i t bytes h is =
    let long : length (take i ts) ≡ i = length-take-le i ts (omega arith) in
    let grown : row_records number (take (i + 1) ts) ≡ row_records number (take i ts) ++ map (row_record (number + i) t) t.rows
    = ap (row_records number) (take_more ts i t h ∙ ap (λ x. take i ts ++ x ∷ []) (sym is))
    ∙ row_records-push number (take i ts) t
    ∙ ap (λ n. row_records number (take i ts) ++ map (row_record (number + n) t) t.rows) long in
    append_assoc bytes (flat_map record_bytes (row_records number (take i ts))) (flat_map record_bytes (map (row_record (number + i) t) t.rows))
    ∙ ap (λ l. bytes ++ l) (sym (ap (flat_map record_bytes) grown ∙ flat_map-append record_bytes (row_records number (take i ts)) (map (row_record (number + i) t) t.rows)))

-- ---- the columns of a block

mapped : {X Y Z : Type 0} (f : Y → Z) (g : X → Y) (xs : List X) → map f (map g xs) ≡ map (λ x. f (g x)) xs
mapped f g [] = refl
mapped f g (x ∷ xs) = ap (λ l. f (g x) ∷ l) (mapped f g xs)

unmapped : {X : Type 0} (xs : List X) → map (λ x. x) xs ≡ xs
unmapped [] = refl
unmapped (x ∷ xs) = ap (λ l. x ∷ l) (unmapped xs)

labels_of : (t : Table) (rest : List Table) → map (λ c. c.label) (columns_over (t ∷ rest)) ≡ column_labels t
labels_of t rest = mapped (λ (c : Column). c.label) (column_of t (t ∷ rest)) (column_labels t) ∙ unmapped (column_labels t)

-- the head records say what is kept of the columns
pub heads_are : (name : List ℕ) (run : List Table) → 0 < length run → heads name (columns_over run) ≡ head_records name run
heads_are name [] h = absurd (omega arith)
heads_are name (t ∷ rest) h =
    let field = λ (k : Head). mapped (head_field k) (column_of t (t ∷ rest)) (column_labels t) in
    λ i. (codes "#datatype" ∷ codes "string" ∷ codes "long" ∷ field Datatype i)
    ∷ (codes "#group" ∷ codes "false" ∷ codes "false" ∷ field Group i)
    ∷ (codes "#default" ∷ name ∷ [] ∷ field Default i)
    ∷ ([] ∷ codes "result" ∷ codes "table" ∷ labels_of t rest i)
    ∷ []

same_columns : (t : Table) (labels : List (List ℕ)) → labels ≡ column_labels t → (rest : List Table) → list_all (same_shape t) rest ≡ true
    → AllByRecursion (λ u. labels ≡ column_labels u) rest
same_columns t labels e [] h = tt
same_columns t labels e (u ∷ rest) h =
    let shape = first_so (same_shape t u) (list_all (same_shape t) rest) h in (
      e ∙ (pointwise_decides bytes_decides (column_labels t) (column_labels u)).0 (second_so (same_labels (key_labels t) (key_labels u)) (same_labels (column_labels t) (column_labels u)) shape),
      same_columns t labels e rest (second_so (same_shape t u) (list_all (same_shape t) rest) h),
    )

have_each : (run : List Table) → is_block run ≡ true → AllByRecursion (λ u. map (λ c. c.label) (columns_over run) ≡ column_labels u) run
have_each [] h = tt
have_each (t ∷ rest) h = (
  labels_of t rest,
  same_columns t (map (λ c. c.label) (columns_over (t ∷ rest))) (labels_of t rest) rest
      (first_so (list_all (same_shape t) rest) (list_all (λ label. is_one_kind (kinds label (t ∷ rest))) (column_labels t)) h),
)

-- the tables of a block have its columns
pub have_columns : (run : List Table) → is_block run ≡ true → All (λ u. map (λ c. c.label) (columns_over run) ≡ column_labels u) run
have_columns run h = All-from_recursion (λ u. map (λ c. c.label) (columns_over run) ≡ column_labels u) run (have_each run h)

-- ---- blocks

pub begins : (name : List ℕ) (all : List Table) → blocks_bytes name (length all - length all) (runs is_block all) ≡ printed name all
begins name all = ap (λ n. blocks_bytes name n (runs is_block all)) (omega arith)

-- the first block, and those behind it
pub goes_on : (name out : List ℕ) (all rest : List Table) (b : Block) → IsFirstBlock rest b → length rest ≤ length all
    → (out ++ block_bytes name (length all - length rest) (take b.len rest)) ++ blocks_bytes name (length all - length (drop b.len rest)) (runs is_block (drop b.len rest))
    ≡ out ++ blocks_bytes name (length all - length rest) (runs is_block rest)
goes_on name out all rest b is h =
    let front = block_bytes name (length all - length rest) (take b.len rest) in
    let after = runs is_block (drop b.len rest) in
    let within : b.len ≤ length rest = is.within in
    let long : length (take b.len rest) ≡ b.len = length-take-le b.len rest within in
    let number : length all - length (drop b.len rest) ≡ length all - length rest + length (take b.len rest) = omega (arith, long, length-drop b.len rest) in
    append_assoc out front (blocks_bytes name (length all - length (drop b.len rest)) after)
    ∙ ap (λ n. out ++ (front ++ blocks_bytes name n after)) number
    ∙ ap (λ l. out ++ blocks_bytes name (length all - length rest) l) (sym is.cut)
