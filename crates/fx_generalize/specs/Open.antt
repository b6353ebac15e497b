-- Solutions for any values of the variables that nothing is bound to.
use Rattle.std.specs.Prelude.{◌≡◌, ℕ, false, List, None}
use Rattle.fx_types.specs.Ground.{listed}
use Rattle.fx_types.specs.Instance.{Solution}
use Rattle.fx_types.specs.Term.{Label}
use Rattle.fx_types.specs.Shape.{field_term}
use Rattle.fx_unify.specs.declared.bindings.Bindings as bindings
use Rattle.fx_unify.specs.declared.store.Root as roots
use Rattle.fx_unify.specs.declared.store.Root.TheVariants as root
use Rattle.fx_unify.specs.declared.store.Store as stores
use Rattle.fx_unify.specs.Least.{Leads, RowLeads}
use Rattle.fx_unify.specs.Part.{Part, part_of, value, Entries, type_node, field_node, slot_node, Solved}
use Rattle.fx_unify.specs.Store.{entry, root_at, bound_to, IsFree, KeepsRoot}

-- the solution has the values of `plain` at each variable that nothing is bound to
abbrev pub HasFree : Entries → Solution → Solution → Type 0
HasFree e plain s =
    ((n : ℕ) → e (type_node n) ≡ None → s.type_of n ≡ plain.type_of n)
    × ((n : ℕ) → e (field_node n) ≡ None → s.field_of n ≡ plain.field_of n)
    × ((r : ℕ) (l : Label) → e (slot_node r l) ≡ None → s.row_of r l ≡ plain.row_of r l)

-- whatever these variables are to be, there is a solution
abbrev pub IsOpen : Entries → Type 0
IsOpen e = (plain : Solution) → (s : Solution) × Solved s e × HasFree e plain s

-- the same of bindings
abbrev pub LeavesOpen : bindings.Bindings → Type 0
LeavesOpen b = IsOpen (entry b.store)

-- the way from p along what is bound ends at q
abbrev pub EndsAt : Entries → Part → Part → Type 0
EndsAt e p q = Leads e p q × (bound_to e q ≡ None) × ((s : Solution) → Solved s e → value s q ≡ value s p)

abbrev pub Ends : Entries → Part → Type 0
Ends e p = (q : Part) × EndsAt e p q

-- off some labels, the way from the row variable ends at a default or at a free row variable
abbrev pub RowEnds : stores.Store → ℕ → Type 0
RowEnds st r =
    (ls : List Label) × (o : roots.Root) × RowLeads st ls r o × IsFree st o × KeepsRoot st o ls
    × ((s : Solution) → Solved s (entry st) → (l : Label) → listed l ls ≡ false → value s (root_at l o) ≡ s.row_of r l)

-- the way from a default ends
abbrev pub RootEnds : stores.Store → roots.Root → Type 0
RootEnds st (root.Default d) = Ends (entry st) (part_of (field_term d))
RootEnds st (root.Var q) = Unit {0}

-- no way goes on without end
abbrev pub HasEnds : stores.Store → Type 0
HasEnds st = ((p : Part) → Ends (entry st) p) × ((r : ℕ) → RowEnds st r)
