-- What is kept while types are counted.
use Rattle.std.specs.Prelude.{◌≡◌, ℕ, true, false, List, None, Some, slice_index_or}
use Rattle.fx_types.specs.Ground.{g_is}
use Rattle.fx_types.specs.Size.{Pipes}
use Rattle.fx_unify.specs.declared.counts.Counts as counts
use Rattle.fx_unify.specs.declared.sorts.Sorts as sorts
use Rattle.fx_unify.specs.declared.store.Store as stores
use Rattle.fx_unify.specs.Light.{IsLightRow}
use Rattle.fx_unify.specs.Measure.{least, Admits, Measured}

-- the type of the variable has n nodes
abbrev pub HasNodes : stores.Store → List sorts.Sorts → ℕ → ℕ → Type 0
HasNodes st ks v n = Measured (least st ks) (Admits st ks) Pipes (λ s. g_is (s.type_of v)) n

-- each number that is kept is that of its variable, and each row that is kept is light
unfoldable pub Counted : stores.Store → List sorts.Sorts → counts.Counts → Type 0
Counted st ks c =
    ((v n : ℕ) → slice_index_or c.types.items v None ≡ Some n → HasNodes st ks v n) × ((r : ℕ) → slice_index_or c.rows.items r false ≡ true → IsLightRow st ks r)
