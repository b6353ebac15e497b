-- The plainest instance of a term of few nodes has few nodes, where its rows have columns alone.
use Rattle.std.proofs.Common.{◌≡◌, refl, ℕ, ◌+◌, ◌≤◌, ◌^◌, ◌-◌, Bool, true, false, ◌&&◌, List, [], ◌∷◌, ◌++◌, arith}
use Rattle.std.specs.Prelude.{if◌then◌else◌}
use Rattle.std.proofs.lemmas.Bool.{and_parts}
use Rattle.fx_types.specs.Term.{Label, Term, bool, int, text, time, span, pattern, done, type_variable, array, fun, rec, stream, Labels, no_labels, more_labels, Pipe, no_pipe, by_pipe, Fields, no_fields, more_fields, Tail, default, row_variable}
use Rattle.fx_types.specs.Ground.{is_plain, listed}
use Rattle.fx_types.specs.Instance.{ground, ground_field, plainest}
use Rattle.fx_types.specs.Nodes.{nodes, nodes_labels, nodes_pipe, nodes_field, nodes_fields, nodes_tail}
use Rattle.fx_types.specs.Size.{AtMost}
use Rattle.fx_types.proofs.Choices.{chosen}
use Rattle.fx_types.proofs.SizeLaws.{numbered}
use Rattle.fx_types.proofs.SizeSteps.{plain_nothing}

abbrev pub tidy_fields : Fields → Bool
tidy_fields no_fields = true
tidy_fields (more_fields x f fs) = is_plain (ground_field plainest f) && tidy_fields fs

abbrev pub tidy_tail : Tail → Bool
tidy_tail (default f) = is_plain (ground_field plainest f)
tidy_tail (row_variable n) = true

-- rows have columns alone
abbrev mutual
  pub tidy : Term → Bool
  tidy (array t) = tidy t
  tidy (fun ls p t) = tidy_labels ls && (tidy_pipe p && tidy t)
  tidy (rec fs r) = tidy_fields fs && tidy_tail r
  tidy (stream fs r) = tidy_fields fs && tidy_tail r
  tidy _ = true

  pub tidy_labels : Labels → Bool
  tidy_labels no_labels = true
  tidy_labels (more_labels x t ls) = tidy t && tidy_labels ls

  pub tidy_pipe : Pipe → Bool
  tidy_pipe no_pipe = true
  tidy_pipe (by_pipe t) = tidy t

-- no fewer than the nodes
abbrev mutual
  pub most : Term → ℕ
  most (array t) = most t + 1
  most (fun ls p t) = most_labels ls + most_pipe p + most t + 1
  most _ = 1

  pub most_labels : Labels → ℕ
  most_labels no_labels = 0
  most_labels (more_labels x t ls) = most t + 1 + most_labels ls

  pub most_pipe : Pipe → ℕ
  most_pipe no_pipe = 0
  most_pipe (by_pipe t) = most t

-- fields

either_none : (b : Bool) (n : ℕ) → n ≡ 0 → (if b then 0 else n) ≡ 0
either_none true n e = refl
either_none false n e = e

fields_light : (before : List Label) (fs : Fields) → tidy_fields fs ≡ true → nodes_fields before fs ≡ 0
fields_light before no_fields e = refl
fields_light before (more_fields x f fs) e =
    let parts = and_parts (is_plain (ground_field plainest f)) (tidy_fields fs) e in
    let here : (if listed x before then 0 else nodes_field f) ≡ 0 = either_none (listed x before) (nodes_field f) (plain_nothing f parts.0) in
    let rest : nodes_fields (before ++ x ∷ []) fs ≡ 0 = fields_light (before ++ x ∷ []) fs parts.1 in
    omega arith

tail_light : (r : Tail) → tidy_tail r ≡ true → nodes_tail r ≡ 0
tail_light (default f) e = chosen (is_plain (ground_field plainest f)) 0 (2 ^ 64 - 1) e
tail_light (row_variable n) e = refl

either_less : (b : Bool) (n m : ℕ) → n ≤ m → (if b then 0 else n) ≤ m
either_less true n m le = omega arith
either_less false n m le = le

row_light : (fs : Fields) (r : Tail) → (tidy_fields fs && tidy_tail r) ≡ true → nodes_fields [] fs + nodes_tail r + 1 ≤ 1
row_light fs r e =
    let parts = and_parts (tidy_fields fs) (tidy_tail r) e in
    let one : nodes_fields [] fs ≡ 0 = fields_light [] fs parts.0 in
    let two : nodes_tail r ≡ 0 = tail_light r parts.1 in
    omega arith

mutual
  few : (t : Term) → tidy t ≡ true → nodes t ≤ most t
  few bool e = omega arith
  few int e = omega arith
  few text e = omega arith
  few time e = omega arith
  few span e = omega arith
  few pattern e = omega arith
  few done e = omega arith
  few (type_variable n) e = omega arith
  few (array t) e = let le : nodes t ≤ most t = few t e in omega arith
  few (fun ls p t) e =
      let parts = and_parts (tidy_labels ls) (tidy_pipe p && tidy t) e in
      let rest = and_parts (tidy_pipe p) (tidy t) parts.1 in
      let one : nodes_labels [] ls ≤ most_labels ls = few_labels [] ls parts.0 in
      let two : nodes_pipe p ≤ most_pipe p = few_pipe p rest.0 in
      let three : nodes t ≤ most t = few t rest.1 in
      omega arith
  few (rec fs r) e = row_light fs r e
  few (stream fs r) e = row_light fs r e

  few_labels : (before : List Label) (ls : Labels) → tidy_labels ls ≡ true → nodes_labels before ls ≤ most_labels ls
  few_labels before no_labels e = omega arith
  few_labels before (more_labels x t ls) e =
      let parts = and_parts (tidy t) (tidy_labels ls) e in
      let le : nodes t ≤ most t = few t parts.0 in
      let here : (if listed x before then 0 else nodes t + 1) ≤ most t + 1 = either_less (listed x before) (nodes t + 1) (most t + 1) (omega arith) in
      let rest : nodes_labels (before ++ x ∷ []) ls ≤ most_labels ls = few_labels (before ++ x ∷ []) ls parts.1 in
      omega arith

  few_pipe : (p : Pipe) → tidy_pipe p ≡ true → nodes_pipe p ≤ most_pipe p
  few_pipe no_pipe e = omega arith
  few_pipe (by_pipe t) e = few t e

pub small : (t : Term) → tidy t ≡ true → most t ≤ 4096 → AtMost (ground plainest t) 4096
small t e le =
    let fewer : nodes t ≤ most t = few t e in
    (numbered t).1 4096 (omega arith) (omega arith)
