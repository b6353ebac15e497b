-- What variables that nothing is bound to stand for in the least solution.
use Rattle.std.specs.Prelude.{◌≡◌, ◌⊎◌, ℕ, true, false, List, None}
use Rattle.fx_types.specs.Term.{Label}
use Rattle.fx_types.specs.Ground.{g_absent, g_span, is_column}
use Rattle.fx_types.specs.Instance.{Solution}
use Rattle.fx_unify.specs.declared.bound.Bound as bounds
use Rattle.fx_unify.specs.declared.store.Store as stores
use Rattle.fx_unify.specs.Bounds.{Keeps}
use Rattle.fx_unify.specs.Part.{Solved, type_node, field_node, slot_node}
use Rattle.fx_unify.specs.Store.{entry}

-- a kind of columns that the bounds leave to the variable, or a duration where they leave none
abbrev pub IsPlainType : stores.Store → List bounds.Bound → Solution → ℕ → Type 0
IsPlainType st bs s n =
    (is_column (s.type_of n) ≡ true)
    ⊎ ((s.type_of n ≡ g_span) × ((q : Solution) → Solved q (entry st) → Keeps q bs → is_column (q.type_of n) ≡ false))

-- each free field is Absent, and so is each field of a free row
abbrev pub IsPlainest : stores.Store → List bounds.Bound → Solution → Type 0
IsPlainest st bs s =
    ((n : ℕ) → entry st (type_node n) ≡ None → IsPlainType st bs s n)
    × ((n : ℕ) → entry st (field_node n) ≡ None → s.field_of n ≡ g_absent)
    × ((r : ℕ) (l : Label) → entry st (slot_node r l) ≡ None → s.row_of r l ≡ g_absent)
