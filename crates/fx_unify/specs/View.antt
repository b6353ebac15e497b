-- Lent fields.
use Rattle.std.specs.Prelude.{Option, None}
use Rattle.fx_types.specs.Shape.{term}
use Rattle.fx_unify.specs.declared.view.View as code
use Rattle.fx_unify.specs.declared.view.View.TheVariants as views
use Rattle.fx_unify.specs.Part.{Part, p_absent, p_is, p_field, p_slot, Entries, field_node, slot_node}

abbrev pub part_seen : code.View → Part
part_seen views.Absent = p_absent
part_seen (views.Is t) = p_is (term t.now)
part_seen (views.Var n) = p_field n
part_seen (views.Slot r l) = p_slot r l.now

-- what a field that is no type is bound to
abbrev pub field_bound_to : Entries → Part → Option Part
field_bound_to e (p_field n) = e (field_node n)
field_bound_to e (p_slot r l) = e (slot_node r l)
field_bound_to e _ = None
