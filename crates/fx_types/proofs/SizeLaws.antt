-- The nodes of a term are the nodes of its plainest instance.
use Rattle.std.proofs.Common.{◌≡◌, refl, sym, ap, subst, ◌∙◌, ℕ, ◌+◌, ◌-◌, ◌^◌, ◌≤◌, ◌<◌, false, List, [], ◌∷◌, ◌++◌, arith}
use Rattle.std.specs.Prelude.{if◌then◌else◌}
use mathlib.Core.Bool.{true≢false}
use Rattle.fx_base.specs.Text.{same_text}
use Rattle.fx_types.specs.Term.{Label, Term, bool, int, text, time, span, pattern, done, type_variable, array, fun, rec, stream, Labels, no_labels, more_labels, Pipe, no_pipe, by_pipe, Field, absent, is, field_variable, Fields, no_fields, more_fields, Tail, default, row_variable}
use Rattle.fx_types.specs.Ground.{Ground, GroundField, GroundRow, g_absent, g_is, is_column, is_plain, listed}
use Rattle.fx_types.specs.Instance.{ground, ground_labels, ground_pipe, ground_field, ground_fields, ground_tail, plainest}
use Rattle.fx_types.specs.Size.{AreDistinct, total, AtMost, Weighs, Takes, Pipes, IsSize}
use Rattle.fx_types.specs.Nodes.{nodes, nodes_labels, nodes_pipe, nodes_field, nodes_fields, nodes_tail, capped}
use Rattle.fx_types.proofs.Choices.{by_cases}
use Rattle.fx_types.proofs.PlainLaws.{plain_weighs}
use Rattle.fx_types.proofs.RowSums.{Item, over, weighed, Counts, AllCount, counts_each, counts_least, weight_at, total_weight, firsts, firsts_distinct, longest, longer, longer_distinct, over_longer, total_longer}

abbrev top : ℕ
top = 2 ^ 64 - 1

-- the entries of a row and of a function's labels

abbrev items_fields : Fields → List Item
items_fields no_fields = []
items_fields (more_fields x f fs) = record { label = x; field = ground_field plainest f; weight = nodes_field f } ∷ items_fields fs

abbrev items_labels : Labels → List Item
items_labels no_labels = []
items_labels (more_labels x t ls) = record { label = x; field = g_is (ground plainest t); weight = nodes t + 1 } ∷ items_labels ls

row_over : (fs : Fields) (r : GroundRow) (l : Label) → ground_fields plainest fs r l ≡ over (items_fields fs) r l
row_over no_fields r l = refl
row_over (more_fields x f fs) r l = ap (λ y. if same_text l x then ground_field plainest f else y) (row_over fs r l)

labels_over : (ls : Labels) (l : Label) → ground_labels plainest ls l ≡ over (items_labels ls) (λ _. g_absent) l
labels_over no_labels l = refl
labels_over (more_labels x t ls) l = ap (λ y. if same_text l x then g_is (ground plainest t) else y) (labels_over ls l)

fields_weighed : (before : List Label) (fs : Fields) → nodes_fields before fs ≡ weighed before (items_fields fs)
fields_weighed before no_fields = refl
fields_weighed before (more_fields x f fs) = ap (λ n. (if listed x before then 0 else nodes_field f) + n) (fields_weighed (before ++ x ∷ []) fs)

labels_weighed : (before : List Label) (ls : Labels) → nodes_labels before ls ≡ weighed before (items_labels ls)
labels_weighed before no_labels = refl
labels_weighed before (more_labels x t ls) = ap (λ n. (if listed x before then 0 else nodes t + 1) + n) (labels_weighed (before ++ x ∷ []) ls)

-- a number below the greatest is enough exactly where it is at least the term's nodes
abbrev Numbered : Ground → ℕ → Type 0
Numbered t w = ((k : ℕ) → AtMost t k → k < top → w ≤ k) × ((k : ℕ) → w ≤ k → k < top → AtMost t k)

abbrev Piped : GroundField → ℕ → Type 0
Piped f w = ((k : ℕ) → Pipes f k → k < top → w ≤ k) × ((k : ℕ) → w ≤ k → k < top → Pipes f k)

-- what a field counts, from what its type does
field_counts : (t : Term) → Numbered (ground plainest t) (nodes t) → Counts Weighs top (g_is (ground plainest t)) (nodes_field (is t))
field_counts t h = (
  λ k w lt. by_cases (is_column (ground plainest t))
      (λ c. let none : nodes_field (is t) ≡ 0 = ap (λ b. if b then 0 else nodes t + 1) c in omega arith)
      (λ c. let some : nodes_field (is t) ≡ nodes t + 1 = ap (λ b. if b then 0 else nodes t + 1) c in
      let p : (i : ℕ) × AtMost (ground plainest t) i × (i + 1 ≤ k) = w c in
      let le : p.0 + 1 ≤ k = p.2 in
      let inner : nodes t ≤ p.0 = h.0 p.0 p.1 (omega arith) in
      omega arith),
  λ k le lt c.
      let some : nodes_field (is t) ≡ nodes t + 1 = ap (λ b. if b then 0 else nodes t + 1) c in
      (nodes t, h.1 (nodes t) (omega arith) (omega arith), omega arith),
)

label_counts : (t : Term) → Numbered (ground plainest t) (nodes t) → Counts Takes top (g_is (ground plainest t)) (nodes t + 1)
label_counts t h = (
  λ k p lt. let le : p.0 + 1 ≤ k = p.2 in let inner : nodes t ≤ p.0 = h.0 p.0 p.1 (omega arith) in omega arith,
  λ k le lt. (nodes t, h.1 (nodes t) (omega arith) (omega arith), omega arith),
)

-- what a row has at its unlisted labels
abbrev pub tail_field : Tail → GroundField
tail_field (default f) = ground_field plainest f
tail_field (row_variable n) = g_absent

pub tail_is : (r : Tail) (l : Label) → ground_tail plainest r l ≡ tail_field r
tail_is (default f) l = refl
tail_is (row_variable n) l = refl

tail_counts : (r : Tail) → nodes_tail r ≡ (if is_plain (tail_field r) then 0 else top)
tail_counts (default f) = refl
tail_counts (row_variable n) = refl

heavy : (f : GroundField) → is_plain f ≡ false → (k : ℕ) → Weighs f k → 1 ≤ k
heavy g_absent e k w = absurd (true≢false e)
heavy (g_is t) e k w = let p : (i : ℕ) × AtMost t i × (i + 1 ≤ k) = w e in let le : p.0 + 1 ≤ k = p.2 in omega arith

abbrev AtMostRow : GroundRow → ℕ → Type 0
AtMostRow r n =
    (weight : Label → ℕ) × ((l : Label) → Weighs (r l) (weight l)) × ((ls : List Label) → AreDistinct ls → total weight ls + 1 ≤ n)

row_enough : (fs : Fields) (r : Tail) → AllCount Weighs top (items_fields fs) → (n : ℕ) → nodes_fields [] fs + nodes_tail r + 1 ≤ n → n < top
    → AtMostRow (ground_fields plainest fs (ground_tail plainest r)) n
row_enough fs r all n le lt =
    let listed_all : nodes_fields [] fs ≡ weighed [] (items_fields fs) = fields_weighed [] fs in
    by_cases (is_plain (tail_field r))
    (λ t. let none : nodes_tail r ≡ 0 = tail_counts r ∙ ap (λ b. if b then 0 else top) t in (
      weight_at [] (items_fields fs),
      λ l. subst (λ f. Weighs f (weight_at [] (items_fields fs) l)) (sym (row_over fs (ground_tail plainest r) l))
          (counts_each Weighs top [] (items_fields fs) (ground_tail plainest r) all (omega arith)
          (λ x k. subst (λ f. Weighs f k) (sym (tail_is r x)) (plain_weighs (tail_field r) k t)) l refl),
      λ ls d. let most : total (weight_at [] (items_fields fs)) ls ≤ weighed [] (items_fields fs) = total_weight [] (items_fields fs) ls d in omega arith,
    ))
    (λ f. let endless : nodes_tail r ≡ top = tail_counts r ∙ ap (λ b. if b then 0 else top) f in absurd (omega arith))

row_least : (fs : Fields) (r : Tail) → AllCount Weighs top (items_fields fs) → (n : ℕ) → AtMostRow (ground_fields plainest fs (ground_tail plainest r)) n → n < top
    → nodes_fields [] fs + nodes_tail r + 1 ≤ n
row_least fs r all n most lt =
    let items : List Item = items_fields fs in
    let rest : GroundRow = ground_tail plainest r in
    let listed_all : nodes_fields [] fs ≡ weighed [] items = fields_weighed [] fs in
    let bound : (ls : List Label) → AreDistinct ls → total most.0 ls + 1 ≤ n = most.2 in
    by_cases (is_plain (tail_field r))
    (λ t. let none : nodes_tail r ≡ 0 = tail_counts r ∙ ap (λ b. if b then 0 else top) t in
    let small : (l : Label) → most.0 l < top = λ l. (let h : total most.0 (l ∷ []) + 1 ≤ n = bound (l ∷ []) (refl, tt) in omega arith) in
    let least : weighed [] items ≤ total most.0 (firsts [] items) =
    counts_least Weighs top [] items rest (ground_fields plainest fs rest) most.0 all small most.1 (λ l h. row_over fs rest l) in
    let h : total most.0 (firsts [] items) + 1 ≤ n = bound (firsts [] items) (firsts_distinct [] items) in
    omega arith)
    (λ f. let b : ℕ = longest items + 1 in
    let many : n ≤ total most.0 (longer b n) =
    total_longer most.0 b n (λ l le. heavy (tail_field r) f (most.0 l)
    (subst (λ g. Weighs g (most.0 l)) (row_over fs rest l ∙ over_longer items rest l (omega arith) ∙ tail_is r l) (most.1 l))) in
    let h : total most.0 (longer b n) + 1 ≤ n = bound (longer b n) (longer_distinct b n) in
    absurd (omega arith))

fun_numbered : (ls : Labels) (p : Pipe) (t : Term) → AllCount Takes top (items_labels ls) → Piped (ground_pipe plainest p) (nodes_pipe p)
    → Numbered (ground plainest t) (nodes t) → Numbered (ground plainest (fun ls p t)) (nodes (fun ls p t))
fun_numbered ls p t all piped inner =
    let items : List Item = items_labels ls in
    let rest : GroundRow = λ _. g_absent in
    let listed_all : nodes_labels [] ls ≡ weighed [] items = labels_weighed [] ls in (
      λ n most lt.
          let bound : (ks : List Label) → AreDistinct ks → total most.0 ks + most.1 + most.2 + 1 ≤ n = most.6 in
          let small : (l : Label) → most.0 l < top = λ l. (let h : total most.0 (l ∷ []) + most.1 + most.2 + 1 ≤ n = bound (l ∷ []) (refl, tt) in omega arith) in
          let least : weighed [] items ≤ total most.0 (firsts [] items) =
          counts_least Takes top [] items rest (ground_labels plainest ls) most.0 all small most.3 (λ l h. labels_over ls l) in
          let h : total most.0 (firsts [] items) + most.1 + most.2 + 1 ≤ n = bound (firsts [] items) (firsts_distinct [] items) in
          let one : nodes_pipe p ≤ most.1 = piped.0 most.1 most.4 (omega arith) in
          let two : nodes t ≤ most.2 = inner.0 most.2 most.5 (omega arith) in
          omega arith,
      λ n le lt. (
        weight_at [] items,
        nodes_pipe p,
        nodes t,
        λ l. subst (λ f. Takes f (weight_at [] items l)) (sym (labels_over ls l))
            (counts_each Takes top [] items rest all (omega arith) (λ x k. tt) l refl),
        piped.1 (nodes_pipe p) (omega arith) (omega arith),
        inner.1 (nodes t) (omega arith) (omega arith),
        λ ks d. let most : total (weight_at [] items) ks ≤ weighed [] items = total_weight [] items ks d in omega arith,
      ),
    )

mutual
  pub numbered : (t : Term) → Numbered (ground plainest t) (nodes t)
  numbered bool = (λ k h lt. h, λ k h lt. h)
  numbered int = (λ k h lt. h, λ k h lt. h)
  numbered text = (λ k h lt. h, λ k h lt. h)
  numbered time = (λ k h lt. h, λ k h lt. h)
  numbered span = (λ k h lt. h, λ k h lt. h)
  numbered pattern = (λ k h lt. h, λ k h lt. h)
  numbered done = (λ k h lt. h, λ k h lt. h)
  numbered (type_variable n) = (λ k h lt. h, λ k h lt. h)
  numbered (array t) = label_counts t (numbered t)
  numbered (fun ls p t) = fun_numbered ls p t (labels_numbered ls) (pipe_numbered p) (numbered t)
  numbered (rec fs r) = (λ k h lt. row_least fs r (fields_numbered fs) k h lt, λ k h lt. row_enough fs r (fields_numbered fs) k h lt)
  numbered (stream fs r) = (λ k h lt. row_least fs r (fields_numbered fs) k h lt, λ k h lt. row_enough fs r (fields_numbered fs) k h lt)

  labels_numbered : (ls : Labels) → AllCount Takes top (items_labels ls)
  labels_numbered no_labels = tt
  labels_numbered (more_labels x t ls) = (label_counts t (numbered t), labels_numbered ls)

  pipe_numbered : (p : Pipe) → Piped (ground_pipe plainest p) (nodes_pipe p)
  pipe_numbered no_pipe = (λ k h lt. omega arith, λ k h lt. tt)
  pipe_numbered (by_pipe t) = numbered t

  field_numbered : (f : Field) → Counts Weighs top (ground_field plainest f) (nodes_field f)
  field_numbered absent = (λ k h lt. omega arith, λ k h lt. tt)
  field_numbered (is t) = field_counts t (numbered t)
  field_numbered (field_variable n) = (λ k h lt. omega arith, λ k h lt. tt)

  fields_numbered : (fs : Fields) → AllCount Weighs top (items_fields fs)
  fields_numbered no_fields = tt
  fields_numbered (more_fields x f fs) = (field_numbered f, fields_numbered fs)

pub size_is : (t : Term) → IsSize (ground plainest t) (capped (nodes t))
size_is t n lt = (
  λ h. let le : nodes t ≤ n = (numbered t).0 n h lt in omega arith,
  λ h. (numbered t).1 n (omega arith) lt,
)
