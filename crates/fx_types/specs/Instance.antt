-- The ground type that a term becomes when types, fields and rows are put in for its variables.
use Rattle.std.specs.Prelude.{ℕ, if◌then◌else◌}
use Rattle.fx_base.specs.Text.{same_text}
use Rattle.fx_types.specs.Term.{Term, bool, int, text, time, span, pattern, done, type_variable, array, fun, rec, stream, Labels, no_labels, more_labels, Pipe, no_pipe, by_pipe, Field, absent, is, field_variable, Fields, no_fields, more_fields, Tail, default, row_variable}
use Rattle.fx_types.specs.Ground.{Ground, GroundField, GroundRow, g_bool, g_int, g_text, g_time, g_span, g_pattern, g_done, g_array, g_fun, g_rec, g_stream, g_absent, g_is}

-- a type, a field and a row for each number
pub record Solution : Type 0 where
  pub type_of : ℕ → Ground
  pub field_of : ℕ → GroundField
  pub row_of : ℕ → GroundRow

abbrev mutual
  pub ground : Solution → Term → Ground
  ground s bool = g_bool
  ground s int = g_int
  ground s text = g_text
  ground s time = g_time
  ground s span = g_span
  ground s pattern = g_pattern
  ground s done = g_done
  ground s (type_variable n) = s.type_of n
  ground s (array t) = g_array (ground s t)
  ground s (fun ls p t) = g_fun (ground_labels s ls) (ground_pipe s p) (ground s t)
  ground s (rec fs r) = g_rec (ground_fields s fs (ground_tail s r))
  ground s (stream fs r) = g_stream (ground_fields s fs (ground_tail s r))

  pub ground_labels : Solution → Labels → GroundRow
  ground_labels s no_labels l = g_absent
  ground_labels s (more_labels x t ls) l = if same_text l x then g_is (ground s t) else ground_labels s ls l

  pub ground_pipe : Solution → Pipe → GroundField
  ground_pipe s no_pipe = g_absent
  ground_pipe s (by_pipe t) = g_is (ground s t)

  pub ground_field : Solution → Field → GroundField
  ground_field s absent = g_absent
  ground_field s (is t) = g_is (ground s t)
  ground_field s (field_variable n) = s.field_of n

  -- the listed fields over the row of the rest
  pub ground_fields : Solution → Fields → GroundRow → GroundRow
  ground_fields s no_fields r l = r l
  ground_fields s (more_fields x f fs) r l = if same_text l x then ground_field s f else ground_fields s fs r l

  pub ground_tail : Solution → Tail → GroundRow
  ground_tail s (default f) l = ground_field s f
  ground_tail s (row_variable n) l = s.row_of n l

-- types are int, fields are Absent, and rows have nothing but Absent
abbrev pub plainest : Solution
plainest = record { type_of = λ n. g_int; field_of = λ n. g_absent; row_of = λ n l. g_absent }
