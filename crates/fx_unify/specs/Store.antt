-- What a store binds.
use Rattle.std.specs.Prelude.{◌≡◌, ℕ, true, false, List, [], ◌∷◌, Option, None, Some, map, option_map, slice_index_or, if◌then◌else◌}
use Rattle.fx_base.specs.Text.{same_text}
use Rattle.fx_types.specs.Term.{Label, type_variable}
use Rattle.fx_types.specs.Ground.{listed}
use Rattle.fx_types.specs.Shape.{term, field_term}
use Rattle.fx_unify.specs.declared.store.Store as stores
use Rattle.fx_unify.specs.declared.store.Slot as slots
use Rattle.fx_unify.specs.declared.store.Root as roots
use Rattle.fx_unify.specs.declared.store.Root.TheVariants as root
use Rattle.fx_unify.specs.Part.{Part, Variable, p_is, p_field, p_slot, part, part_of, Entries, type_node, field_node, slot_node}

-- what a row variable has at a label, by its rest
abbrev pub root_at : Label → roots.Root → Part
root_at l (root.Default d) = part_of (field_term d)
root_at l (root.Var q) = p_slot q l

-- by the first of its slots with the label, else by `other`
abbrev pub slot_in : List slots.Slot → Label → Option Part → Option Part
slot_in [] l other = other
slot_in (c ∷ cs) l other = if same_text l c.label then Some (part c.field) else slot_in cs l other

-- where it is apart from its rest, it is free
abbrev pub rest_in : List Label → Option roots.Root → Label → Option Part
rest_in apart rest l = if listed l apart then None else option_map (root_at l) rest

abbrev pub slots_of : stores.Store → ℕ → List slots.Slot
slots_of st r = slice_index_or st.slots.items r []

abbrev pub apart_of : stores.Store → ℕ → List Label
apart_of st r = slice_index_or st.apart.items r []

abbrev pub rest_of : stores.Store → ℕ → Option roots.Root
rest_of st r = slice_index_or st.rests.items r None

abbrev pub slot_names : List slots.Slot → List Label
slot_names = map (λ c. c.label)

abbrev pub entry : stores.Store → Entries
entry st (type_node n) = option_map (λ t. p_is (term t)) (slice_index_or st.types.items n None)
entry st (field_node n) = option_map part (slice_index_or st.fields.items n None)
entry st (slot_node r l) = slot_in (slots_of st r) l (rest_in (apart_of st r) (rest_of st r) l)

-- what the variable that a part is is bound to
abbrev pub bound_to : Entries → Part → Option Part
bound_to e (p_is (type_variable n)) = e (type_node n)
bound_to e (p_field n) = e (field_node n)
bound_to e (p_slot r l) = e (slot_node r l)
bound_to e _ = None

-- the labels at which a row variable isn't what its rest gives are among these
abbrev pub AreKept : stores.Store → ℕ → List Label → Type 0
AreKept st r ls = (l : Label) → listed l ls ≡ false → (listed l (slot_names (slots_of st r)) ≡ false) × (listed l (apart_of st r) ≡ false)

abbrev pub KeepsRoot : stores.Store → roots.Root → List Label → Type 0
KeepsRoot st (root.Default d) ls = Unit {0}
KeepsRoot st (root.Var q) ls = AreKept st q ls

-- the root is no bound variable
abbrev pub IsFree : stores.Store → roots.Root → Type 0
IsFree st (root.Default d) = Unit {0}
IsFree st (root.Var q) = rest_of st q ≡ None

-- a row variable was kept apart from its rest at the labels, and nothing else changed
abbrev pub KeptAt : stores.Store → stores.Store → ℕ → List Label → Type 0
KeptAt old st r ls =
    ((x : Variable) → entry st x ≡ entry old x) × (st.slots ≡ old.slots) × (st.rests ≡ old.rests) × (st.work ≡ old.work)
    × ((l : Label) → listed l (apart_of st r) ≡ (if listed l ls then true else listed l (apart_of old r)))
