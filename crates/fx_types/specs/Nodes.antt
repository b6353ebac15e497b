-- How many nodes a term has when types are put in for its variables as `plainest` does. A row whose
-- default counts has no end, and stands for the greatest number of 64 bits.
use Rattle.std.specs.Prelude.{ℕ, ◌+◌, ◌-◌, ◌^◌, List, [], ◌∷◌, ◌++◌, if◌then◌else◌, min}
use Rattle.fx_types.specs.Term.{Label, Term, array, fun, rec, stream, Labels, no_labels, more_labels, Pipe, no_pipe, by_pipe, Field, is, Fields, no_fields, more_fields, Tail, default, row_variable}
use Rattle.fx_types.specs.Ground.{is_column, is_plain, listed}
use Rattle.fx_types.specs.Instance.{ground, ground_field, plainest}

abbrev mutual
  pub nodes : Term → ℕ
  nodes (array t) = nodes t + 1
  nodes (fun ls p t) = nodes_labels [] ls + nodes_pipe p + nodes t + 1
  nodes (rec fs r) = nodes_fields [] fs + nodes_tail r + 1
  nodes (stream fs r) = nodes_fields [] fs + nodes_tail r + 1
  nodes _ = 1

  -- of the labels that aren't among the given ones
  pub nodes_labels : List Label → Labels → ℕ
  nodes_labels before no_labels = 0
  nodes_labels before (more_labels x t ls) = (if listed x before then 0 else nodes t + 1) + nodes_labels (before ++ x ∷ []) ls

  pub nodes_pipe : Pipe → ℕ
  nodes_pipe no_pipe = 0
  nodes_pipe (by_pipe t) = nodes t

  pub nodes_field : Field → ℕ
  nodes_field (is t) = if is_column (ground plainest t) then 0 else nodes t + 1
  nodes_field _ = 0

  -- of the labels that aren't among the given ones
  pub nodes_fields : List Label → Fields → ℕ
  nodes_fields before no_fields = 0
  nodes_fields before (more_fields x f fs) = (if listed x before then 0 else nodes_field f) + nodes_fields (before ++ x ∷ []) fs

  pub nodes_tail : Tail → ℕ
  nodes_tail (default f) = if is_plain (ground_field plainest f) then 0 else 2 ^ 64 - 1
  nodes_tail (row_variable n) = 0

-- as a number of 64 bits, or the greatest of these
abbrev pub capped : ℕ → ℕ
capped n = min n (2 ^ 64 - 1)
