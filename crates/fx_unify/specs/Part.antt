-- Fields as equations speak of them, variables, and the solutions of what is bound.
use Rattle.std.specs.Prelude.{◌≡◌, ℕ, Option, Some}
use Rattle.fx_types.specs.Term.{Label, Term, type_variable, Field, absent, is, field_variable}
use Rattle.fx_types.specs.Ground.{GroundField, g_absent, g_is}
use Rattle.fx_types.specs.Instance.{Solution, ground}
use Rattle.fx_types.specs.Shape.{term}
use Rattle.fx_unify.specs.declared.field.Field as code
use Rattle.fx_unify.specs.declared.field.Field.TheVariants as variants

-- a field, or that of a row variable at a label
pub data Part : Type 0 where
  p_absent : Part
  p_is : (type : Term) → Part
  p_field : (number : ℕ) → Part
  p_slot : (row : ℕ) → (label : Label) → Part

abbrev pub part : code.Field → Part
part variants.Absent = p_absent
part (variants.Is t) = p_is (term t)
part (variants.Var n) = p_field n
part (variants.Slot r l) = p_slot r l

abbrev pub part_of : Field → Part
part_of absent = p_absent
part_of (is t) = p_is t
part_of (field_variable n) = p_field n

abbrev pub value : Solution → Part → GroundField
value s p_absent = g_absent
value s (p_is t) = g_is (ground s t)
value s (p_field n) = s.field_of n
value s (p_slot r l) = s.row_of r l

-- what can be bound: a type, a field, a row at a label
pub data Variable : Type 0 where
  type_node : (number : ℕ) → Variable
  field_node : (number : ℕ) → Variable
  slot_node : (row : ℕ) → (label : Label) → Variable

abbrev pub as_part : Variable → Part
as_part (type_node n) = p_is (type_variable n)
as_part (field_node n) = p_field n
as_part (slot_node r l) = p_slot r l

-- what is bound to what
abbrev pub Entries : Type 0
Entries = Variable → Option Part

abbrev pub Solved : Solution → Entries → Type 0
Solved s e = (x : Variable) (p : Part) → e x ≡ Some p → value s (as_part x) ≡ value s p
