-- A block and the table behind it.
use Rattle.std.proofs.Common.{◌≡◌, ℕ, zero, suc, ◌+◌, ◌<◌, Bool, true, false, ◌&&◌, List, [], ◌∷◌, ◌++◌, length, map, take, drop, get_or, set, refl, ap, sym, ◌∙◌, arith, add-one, append-nil}
use Rattle.std.specs.Option.{option_or}
use Rattle.std.specs.List.{list_all, slice_get}
use Rattle.std.specs.Cmp.{first_so, second_so}
use Rattle.std.specs.Cmp.Lexicographic.{pointwise, bytes_decides}
use Rattle.std.proofs.lemmas.List.{drop_more}
use Rattle.std.proofs.lemmas.List.Concat.{flat_map-append}
use Rattle.std.proofs.lemmas.List.Folds.{list_all-append}
use Rattle.fx_base.specs.Text.{same_text}
use Rattle.fx_value.specs.declared.scalar.Kind.{Kind}
use Rattle.fx_value.specs.declared.scalar.Kind.TheVariants as kind
use Rattle.fx_data.specs.declared.table.Table.{Table}
use Rattle.fx_csv.specs.declared.block.Block.{Block}
use Rattle.fx_csv.specs.declared.column.Column.{Column}
use Rattle.fx_csv.specs.Cells.{is_one_kind, same_kind}
use Rattle.fx_csv.specs.Printed.{column_labels, is_block, key_labels, kinds, kinds_in, same_labels, same_shape, HasOneKind}
use Rattle.fx_csv.specs.Runs.{runs, runs_from}
use Rattle.fx_csv.specs.Shapes.{agrees, IsFirstBlock, all_widened, column_of, columns_over, may_share, widened}

-- ---- kinds

same_kind_is : (a b : Kind) → same_kind a b ≡ true → a ≡ b
same_kind_is kind.Bool kind.Bool h = refl
same_kind_is kind.Bool kind.Int h = cc
same_kind_is kind.Bool kind.Text h = cc
same_kind_is kind.Bool kind.Time h = cc
same_kind_is kind.Int kind.Bool h = cc
same_kind_is kind.Int kind.Int h = refl
same_kind_is kind.Int kind.Text h = cc
same_kind_is kind.Int kind.Time h = cc
same_kind_is kind.Text kind.Bool h = cc
same_kind_is kind.Text kind.Int h = cc
same_kind_is kind.Text kind.Text h = refl
same_kind_is kind.Text kind.Time h = cc
same_kind_is kind.Time kind.Bool h = cc
same_kind_is kind.Time kind.Int h = cc
same_kind_is kind.Time kind.Text h = cc
same_kind_is kind.Time kind.Time h = refl

first_append : {X : Type 0} (xs ys : List X) → slice_get (xs ++ ys) 0 ≡ option_or (slice_get xs 0) (slice_get ys 0)
first_append [] ys = refl
first_append (x ∷ xs) ys = refl

one_kind_after : (k j : Kind) (ys : List Kind) → list_all (same_kind j) ys ≡ true → (same_kind k j && list_all (same_kind k) ys) ≡ same_kind k j
one_kind_after k j ys q =
    elim (same_kind k j) as (λ b. same_kind k j ≡ b → (b && list_all (same_kind k) ys) ≡ b) [
      | true ↦ λ e. ap (λ i. list_all (same_kind i) ys) (same_kind_is k j e) ∙ q
      | false ↦ λ e. refl
    ] refl

one_kind_append : (xs ys : List Kind) → is_one_kind xs ≡ true → is_one_kind ys ≡ true → is_one_kind (xs ++ ys) ≡ may_share (slice_get xs 0) (slice_get ys 0)
one_kind_append [] ys p q = q
one_kind_append (k ∷ xs) [] p q = ap (list_all (same_kind k)) (append-nil xs) ∙ p
one_kind_append (k ∷ xs) (j ∷ ys) p q = list_all-append (same_kind k) xs (j ∷ ys) ∙ ap (λ b. b && (same_kind k j && list_all (same_kind k) ys)) p ∙ one_kind_after k j ys q

kinds_append : (label : List ℕ) (t next : Table) (rest : List Table) → kinds label (t ∷ (rest ++ next ∷ [])) ≡ kinds label (t ∷ rest) ++ kinds label (next ∷ [])
kinds_append label t next rest = flat_map-append (kinds_in label) (t ∷ rest) (next ∷ [])

first_kinds : (label : List ℕ) (t next : Table) (rest : List Table)
    → slice_get (kinds label (t ∷ (rest ++ next ∷ []))) 0 ≡ option_or (slice_get (kinds label (t ∷ rest)) 0) (slice_get (kinds label (next ∷ [])) 0)
first_kinds label t next rest =
    ap (λ ks. slice_get ks 0) (kinds_append label t next rest) ∙ first_append (kinds label (t ∷ rest)) (kinds label (next ∷ []))

one_kind_more : (label : List ℕ) (t next : Table) (rest : List Table) → HasOneKind next → is_one_kind (kinds label (t ∷ rest)) ≡ true
    → is_one_kind (kinds label (t ∷ (rest ++ next ∷ []))) ≡ may_share (slice_get (kinds label (t ∷ rest)) 0) (slice_get (kinds label (next ∷ [])) 0)
one_kind_more label t next rest one h =
    ap is_one_kind (kinds_append label t next rest)
    ∙ one_kind_append (kinds label (t ∷ rest)) (kinds label (next ∷ [])) h (ap is_one_kind (append-nil (kinds_in label next)) ∙ one label)

-- ---- columns

list_all_under : {X : Type 0} (p q r : X → Bool) → ((x : X) → p x ≡ true → q x ≡ r x) → (xs : List X) → list_all p xs ≡ true → list_all q xs ≡ list_all r xs
list_all_under p q r same [] h = refl
list_all_under p q r same (x ∷ xs) h =
    λ i. same x (first_so (p x) (list_all p xs) h) i && list_all_under p q r same xs (second_so (p x) (list_all p xs) h) i

regrouped : (a b c : Bool) (d : Bool) → ((a && b) && (c && d)) ≡ ((a && c) && (b && d))
regrouped true true c d = refl
regrouped true false true d = refl
regrouped true false false d = refl
regrouped false b c d = refl

module _ (t next : Table) (rest : List Table) where
  abbrev kind_here : List ℕ → Bool
  kind_here label = may_share (slice_get (kinds label (t ∷ rest)) 0) (slice_get (kinds label (next ∷ [])) 0)

  abbrev ours : List ℕ → Column
  ours = column_of t (t ∷ rest)

  abbrev theirs : List ℕ → Column
  theirs = column_of next (next ∷ [])

  agrees_at : (x y : List ℕ) → agrees (ours x) (theirs y) ≡ (same_text x y && kind_here x)
  agrees_at x y =
      elim (same_text x y) as (λ b. same_text x y ≡ b → (b && may_share (slice_get (kinds x (t ∷ rest)) 0) (slice_get (kinds y (next ∷ [])) 0)) ≡ (b && kind_here x)) [
        | true ↦ λ e. ap (λ l. may_share (slice_get (kinds x (t ∷ rest)) 0) (slice_get (kinds l (next ∷ [])) 0)) (sym ((bytes_decides x y).0 e))
        | false ↦ λ e. refl
      ] refl

  agree_where : (xs ys : List (List ℕ)) → pointwise agrees (map ours xs) (map theirs ys) ≡ (same_labels xs ys && list_all kind_here xs)
  agree_where [] [] = refl
  agree_where [] (y ∷ ys) = refl
  agree_where (x ∷ xs) [] = refl
  agree_where (x ∷ xs) (y ∷ ys) =
      (λ i. agrees_at x y i && agree_where xs ys i)
      ∙ regrouped (same_text x y) (kind_here x) (same_labels xs ys) (list_all kind_here xs)

  widened_is : (x y : List ℕ) → same_text x y ≡ true → widened (ours x) (theirs y) ≡ column_of t (t ∷ (rest ++ next ∷ [])) x
  widened_is x y e =
      ap (λ l. widened (ours x) (theirs l)) (sym ((bytes_decides x y).0 e))
      ∙ (λ i. record { label = x; grouped = (ours x).grouped; kind = sym (first_kinds x t next rest) i })

  widened_are : (xs ys : List (List ℕ)) → same_labels xs ys ≡ true → all_widened (map ours xs) (map theirs ys) ≡ map (column_of t (t ∷ (rest ++ next ∷ []))) xs
  widened_are [] ys e = refl
  widened_are (x ∷ xs) [] e = cc e
  widened_are (x ∷ xs) (y ∷ ys) e =
      λ i. widened_is x y (first_so (same_text x y) (same_labels xs ys) e) i ∷ widened_are xs ys (second_so (same_text x y) (same_labels xs ys) e) i

  ordered : (a b c d : Bool) → a ≡ true → ((a && ((b && c) && true)) && d) ≡ (b && (c && d))
  ordered a true true d h = ap (λ e. (e && true) && d) h
  ordered a true false d h = ap (λ e. (e && false) && d) h
  ordered a false c d h = ap (λ e. (e && false) && d) h

  -- whether the next table stands in the block, by what is kept of both
  pub block_more : is_block (t ∷ rest) ≡ true → HasOneKind next
      → is_block (t ∷ (rest ++ next ∷ [])) ≡ (same_labels (key_labels t) (key_labels next) && pointwise agrees (columns_over (t ∷ rest)) (columns_over (next ∷ [])))
  block_more passes one =
      let alike = list_all (same_shape t) rest in
      let kinds_alike = list_all (λ label. is_one_kind (kinds label (t ∷ rest))) (column_labels t) in
      let more = list_all (λ label. is_one_kind (kinds label (t ∷ (rest ++ next ∷ [])))) (column_labels t) in
      let grown : more ≡ list_all kind_here (column_labels t)
      = list_all_under (λ label. is_one_kind (kinds label (t ∷ rest))) (λ label. is_one_kind (kinds label (t ∷ (rest ++ next ∷ [])))) kind_here
      (λ label. one_kind_more label t next rest one) (column_labels t) (second_so alike kinds_alike passes) in
      (λ i. list_all-append (same_shape t) rest (next ∷ []) i && grown i)
      ∙ ordered alike (same_labels (key_labels t) (key_labels next)) (same_labels (column_labels t) (column_labels next)) (list_all kind_here (column_labels t)) (first_so alike kinds_alike passes)
      ∙ ap (λ b. same_labels (key_labels t) (key_labels next) && b) (sym (agree_where (column_labels t) (column_labels next)))

  -- the columns of the block with the next table
  pub columns_more : pointwise agrees (columns_over (t ∷ rest)) (columns_over (next ∷ [])) ≡ true
      → all_widened (columns_over (t ∷ rest)) (columns_over (next ∷ [])) ≡ columns_over (t ∷ (rest ++ next ∷ []))
  columns_more e =
      widened_are (column_labels t) (column_labels next)
      (first_so (same_labels (column_labels t) (column_labels next)) (list_all kind_here (column_labels t)) (sym (agree_where (column_labels t) (column_labels next)) ∙ e))

  -- the answer that is given by what is kept of both
  pub verdict : (a b : Bool) (cs ds : List Column) → is_block (t ∷ rest) ≡ true → HasOneKind next
      → a ≡ same_labels (key_labels t) (key_labels next) → b ≡ pointwise agrees cs ds → cs ≡ columns_over (t ∷ rest) → ds ≡ columns_over (next ∷ [])
      → (a && b) ≡ is_block (t ∷ (rest ++ next ∷ []))
  verdict a b cs ds passes one p q ours_is theirs_is =
      (λ i. p i && (q ∙ (λ j. pointwise agrees (ours_is j) (theirs_is j))) i) ∙ sym (block_more passes one)

  pub grown : (cs ds : List Column) → cs ≡ columns_over (t ∷ rest) → ds ≡ columns_over (next ∷ []) → pointwise agrees cs ds ≡ true
      → all_widened cs ds ≡ columns_over (t ∷ (rest ++ next ∷ []))
  grown cs ds ours_is theirs_is e =
      (λ i. all_widened (ours_is i) (theirs_is i)) ∙ columns_more ((λ i. pointwise agrees (sym ours_is i) (sym theirs_is i)) ∙ e)

-- ---- one column after another

pub widened_more : (i : ℕ) (cs : List Column) (ds : List Column) (c d : Column) → i < length cs → i < length ds → c ≡ get_or cs i c → d ≡ get_or ds i d
    → set (all_widened (take i cs) (take i ds) ++ drop i cs) i (widened c d) ≡ all_widened (take (suc i) cs) (take (suc i) ds) ++ drop (suc i) cs
widened_more i [] ds c d h k p q = absurd (omega arith)
widened_more i (x ∷ cs) [] c d h k p q = absurd (omega arith)
widened_more zero (x ∷ cs) (y ∷ ds) c d h k p q = λ i. widened (p i) (q i) ∷ cs
widened_more (suc i) (x ∷ cs) (y ∷ ds) c d h k p q = ap (λ l. widened x y ∷ l) (widened_more i cs ds c d (omega arith) (omega arith) p q)

kept : (i : ℕ) (cs : List Column) (ds : List Column) (c : Column) → i < length ds → get_or (all_widened (take i cs) (take i ds) ++ drop i cs) i c ≡ get_or cs i c
kept zero cs ds c k = refl
kept (suc i) [] ds c k = refl
kept (suc i) (x ∷ cs) [] c k = absurd (omega arith)
kept (suc i) (x ∷ cs) (y ∷ ds) c k = kept i cs ds c (omega arith)

-- one step of the loop that widens
pub widened_next : (i : ℕ) (now cs ds : List Column) (c d : Column) → now ≡ all_widened (take i cs) (take i ds) ++ drop i cs
    → i < length cs → length cs ≡ length ds → c ≡ get_or now i c → d ≡ get_or ds i d
    → set now i (widened c d) ≡ all_widened (take (i + 1) cs) (take (i + 1) ds) ++ drop (i + 1) cs
widened_next i now cs ds c d is h same p q =
    let k : i < length ds = omega (arith, same) in
    ap (λ l. set l i (widened c d)) is
    ∙ widened_more i cs ds c d h k (p ∙ ap (λ l. get_or l i c) is ∙ kept i cs ds c k) q
    ∙ ap (λ n. all_widened (take n cs) (take n ds) ++ drop n cs) (sym (add-one i))

-- ---- where a block ends

list_all_each : {X : Type 0} (p : X → Bool) → ((x : X) → p x ≡ true) → (xs : List X) → list_all p xs ≡ true
list_all_each p each [] = refl
list_all_each p each (x ∷ xs) = λ i. (ap (λ b. b && list_all p xs) (each x) ∙ list_all_each p each xs) i

pub alone : (t : Table) → HasOneKind t → is_block (t ∷ []) ≡ true
alone t one =
    list_all_each (λ label. is_one_kind (kinds label (t ∷ []))) (λ label. ap is_one_kind (append-nil (kinds_in label t)) ∙ one label) (column_labels t)

run_ends : {X : Type 0} (passes : List X → Bool) (run : List X) (x : X) (rest : List X) → passes (run ++ x ∷ []) ≡ false
    → runs_from passes run (x ∷ rest) ≡ run ∷ runs passes (x ∷ rest)
run_ends passes run x rest h = rw h refl

pub ends_here : (t : Table) (rest : List Table) (i : ℕ) (next : Table) (b : Block) → b.len ≡ i + 1 → i < length rest → next ≡ get_or rest i next
    → runs is_block (t ∷ rest) ≡ runs_from is_block (t ∷ take i rest) (drop i rest) → is_block (t ∷ take i rest) ≡ true
    → is_block (t ∷ (take i rest ++ next ∷ [])) ≡ false → b.columns.items ≡ columns_over (t ∷ take i rest) → IsFirstBlock (t ∷ rest) b
ends_here t rest i next b len h at cut passes ends shape =
    let e : b.len ≡ suc i = len ∙ add-one i in
    let left : drop i rest ≡ next ∷ drop (i + 1) rest = drop_more rest i next h ∙ ap (λ x. x ∷ drop (i + 1) rest) (sym at) in
    record {
      some = omega (arith, e);
      within = omega (arith, e);
      columns = rw e shape;
      passes = rw e passes;
      cut =
          rw e (cut ∙ ap (runs_from is_block (t ∷ take i rest)) left
          ∙ run_ends is_block (t ∷ take i rest) next (drop (i + 1) rest) ends
          ∙ ap (λ l. (t ∷ take i rest) ∷ runs is_block l) (sym left));
    }
