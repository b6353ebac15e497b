-- Where a key stands in a list of entries, or belongs.
use Rattle.std.specs.Prelude.{◌≡◌, ℕ, suc, ◌<◌, ◌≤◌, Bool, true, false, List, [], ◌∷◌, length}
use Rattle.std.specs.declared.cmp.Ordering.{Ordering}
use Rattle.std.specs.FinMap.Entries.{by_order}

-- how many entries stand before the first whose key is not below this key
abbrev pub before : {K X : Type 0} → (K → K → Ordering) → K → List (K × X) → ℕ
before R key [] = 0
before R key (e ∷ es) = by_order (R key e.0) 0 0 (suc (before R key es))

-- whether the entry behind those has this key
abbrev pub hits : {K X : Type 0} → (K → K → Ordering) → K → List (K × X) → Bool
hits R key [] = false
hits R key (e ∷ es) = by_order (R key e.0) false true (hits R key es)

-- the key stands at this place
pub record StandsAt {K X : Type 0} (R : K → K → Ordering) (key : K) (es : List (K × X)) (i : ℕ) : Type 0 where
  pub within : i < length es
  pub place : i ≡ before R key es
  pub hit : hits R key es ≡ true

-- the key doesn't stand there, and this is its place
pub record BelongsAt {K X : Type 0} (R : K → K → Ordering) (key : K) (es : List (K × X)) (i : ℕ) : Type 0 where
  pub within : i ≤ length es
  pub place : i ≡ before R key es
  pub hit : hits R key es ≡ false
