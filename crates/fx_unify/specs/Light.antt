-- Rows that count nothing in the least solution.
use Rattle.std.specs.Prelude.{◌≡◌, ℕ, ◌≤◌, true, List, [], ◌∷◌, Option, None, Some}
use Rattle.fx_types.specs.Term.{Label}
use Rattle.fx_types.specs.Ground.{GroundField, GroundRow, is_plain, HasDefault}
use Rattle.fx_types.specs.Shape.{field_term}
use Rattle.fx_unify.specs.declared.sorts.Sorts as sorts
use Rattle.fx_unify.specs.declared.store.Root as roots
use Rattle.fx_unify.specs.declared.store.Root.TheVariants as root
use Rattle.fx_unify.specs.declared.store.Slot as slots
use Rattle.fx_unify.specs.declared.store.Store as stores
use Rattle.fx_unify.specs.Measure.{least, Settles}
use Rattle.fx_unify.specs.Part.{Part, part, part_of, value}

-- from some step on it is one field, which is plain
abbrev pub IsLightField : stores.Store → List sorts.Sorts → Part → Type 0
IsLightField st ks p = (g : GroundField) × Settles (least st ks) (λ s. value s p) g × (is_plain g ≡ true)

abbrev pub AreLight : stores.Store → List sorts.Sorts → List slots.Slot → Type 0
AreLight st ks [] = Unit {0}
AreLight st ks (c ∷ cs) = IsLightField st ks (part c.field) × AreLight st ks cs

-- from some step on it is one row of nothing but plain fields
abbrev pub IsLight : (ℕ → GroundRow) → Type 0
IsLight at =
    (r : GroundRow) × ((k : ℕ) × ((i : ℕ) → k ≤ i → (l : Label) → at i l ≡ r l)) × ((l : Label) → is_plain (r l) ≡ true) × ((d : GroundField) × HasDefault r d)

abbrev pub IsLightRow : stores.Store → List sorts.Sorts → ℕ → Type 0
IsLightRow st ks r = IsLight (λ i. (least st ks i).row_of r)

abbrev pub IsLightRoot : stores.Store → List sorts.Sorts → Option roots.Root → Type 0
IsLightRoot st ks None = Unit {0}
IsLightRoot st ks (Some (root.Default d)) = IsLightField st ks (part_of (field_term d))
IsLightRoot st ks (Some (root.Var q)) = IsLightRow st ks q
