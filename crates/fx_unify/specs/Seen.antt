-- Which variables of a term show in what it becomes: fields that an earlier one of their label hides don't, nor does a
-- row variable at the labels that are listed before it.
use Rattle.std.specs.Prelude.{ℕ, Bool, true, false, ◌||◌, ◌&&◌, ◌==◌, not, List, [], ◌∷◌, if◌then◌else◌}
use Rattle.fx_types.specs.Ground.{g_int, g_absent, listed}
use Rattle.fx_types.specs.Instance.{Solution}
use Rattle.fx_types.specs.Term.{Label, Term, type_variable, array, fun, rec, stream, Labels, no_labels, more_labels, Pipe, no_pipe, by_pipe, Field, absent, is, field_variable, Fields, no_fields, more_fields, Tail, default, row_variable}
use Rattle.fx_unify.specs.Part.{Variable, type_node, field_node, slot_node}

-- the entry of a label, unless it is among those before
abbrev pub unless : Bool → Bool → Bool
unless true seen = false
unless false seen = seen

abbrev pub is_type : Variable → ℕ → Bool
is_type (type_node n) m = n == m
is_type _ m = false

abbrev pub is_field : Variable → ℕ → Bool
is_field (field_node n) m = n == m
is_field _ m = false

abbrev pub is_row_off : Variable → List Label → ℕ → Bool
is_row_off (slot_node r l) before m = (r == m) && not (listed l before)
is_row_off _ before m = false

abbrev mutual
  pub sees : Variable → Term → Bool
  sees x (type_variable n) = is_type x n
  sees x (array t) = sees x t
  sees x (fun ls p t) = sees_labels x [] ls || (sees_pipe x p || sees x t)
  sees x (rec fs r) = sees_fields x [] fs (λ before. sees_tail x before r)
  sees x (stream fs r) = sees_fields x [] fs (λ before. sees_tail x before r)
  sees x _ = false

  pub sees_labels : Variable → List Label → Labels → Bool
  sees_labels x before no_labels = false
  sees_labels x before (more_labels l t ls) = unless (listed l before) (sees x t) || sees_labels x (l ∷ before) ls

  pub sees_pipe : Variable → Pipe → Bool
  sees_pipe x no_pipe = false
  sees_pipe x (by_pipe t) = sees x t

  pub sees_field : Variable → Field → Bool
  sees_field x absent = false
  sees_field x (is t) = sees x t
  sees_field x (field_variable n) = is_field x n

  -- the listed fields, and what is seen of the rest behind all of them
  pub sees_fields : Variable → List Label → Fields → (List Label → Bool) → Bool
  sees_fields x before no_fields rest = rest before
  sees_fields x before (more_fields l f fs) rest = unless (listed l before) (sees_field x f) || sees_fields x (l ∷ before) fs rest

  pub sees_tail : Variable → List Label → Tail → Bool
  sees_tail x before (default f) = sees_field x f
  sees_tail x before (row_variable n) = is_row_off x before n

-- the solution at the variables that pass the test, and what is plainest elsewhere
abbrev pub kept_at : (Variable → Bool) → Solution → Solution
kept_at test s =
    record {
      type_of = λ n. if test (type_node n) then s.type_of n else g_int;
      field_of = λ n. if test (field_node n) then s.field_of n else g_absent;
      row_of = λ r l. if test (slot_node r l) then s.row_of r l else g_absent;
    }
