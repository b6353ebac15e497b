-- The least solution, in steps: free variables stand for plain values, and each step puts into the
-- entries what the step before it gives. Where no variable stands in its own entry, a step comes
-- from which on nothing changes.
use Rattle.std.specs.Prelude.{◌≡◌, ℕ, zero, suc, ◌+◌, false, Option, None, Some, List}
use Rattle.fx_types.specs.Term.{Label, Tail}
use Rattle.fx_types.specs.Ground.{Ground, GroundField, g_absent, g_is, listed}
use Rattle.fx_types.specs.Instance.{Solution, ground_tail}
use Rattle.fx_unify.specs.declared.store.Root as roots
use Rattle.fx_unify.specs.declared.store.Store as stores
use Rattle.fx_unify.specs.Store.{root_at, entry}
use Rattle.fx_unify.specs.Part.{Part, value, Entries, type_node, field_node, slot_node}

abbrev pub type_or : Ground → GroundField → Ground
type_or t g_absent = t
type_or t (g_is u) = u

abbrev pub value_or : GroundField → Solution → Option Part → GroundField
value_or g s None = g
value_or g s (Some p) = value s p

-- `plain` where a variable is free, else what its entry has under s
abbrev pub one_step : Entries → Solution → Solution → Solution
one_step e plain s =
    record {
      type_of = λ n. type_or (plain.type_of n) (value_or (g_is (plain.type_of n)) s (e (type_node n)));
      field_of = λ n. value_or (plain.field_of n) s (e (field_node n));
      row_of = λ r l. value_or (plain.row_of r l) s (e (slot_node r l));
    }

abbrev pub steps : Entries → Solution → ℕ → Solution
steps e plain zero = plain
steps e plain (suc n) = one_step e plain (steps e plain n)

-- p has the steps of q, some later
abbrev pub Leads : Entries → Part → Part → Type 0
Leads e p q = (d : ℕ) × ((plain : Solution) (n : ℕ) → value (steps e plain (n + d)) p ≡ value (steps e plain n) q)

-- off the labels, the row has the steps of the root, some later
abbrev pub RowLeads : stores.Store → List Label → ℕ → roots.Root → Type 0
RowLeads st ls r o =
    (d : ℕ) × ((plain : Solution) (n : ℕ) (l : Label) → listed l ls ≡ false
    → (steps (entry st) plain (n + d)).row_of r l ≡ value (steps (entry st) plain n) (root_at l o))

abbrev pub RestLeads : stores.Store → List Label → Tail → roots.Root → Type 0
RestLeads st ls t o =
    (d : ℕ) × ((plain : Solution) (n : ℕ) (l : Label) → listed l ls ≡ false
    → ground_tail (steps (entry st) plain (n + d)) t l ≡ value (steps (entry st) plain n) (root_at l o))
