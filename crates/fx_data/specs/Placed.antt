-- A table among others, by its place.
use Rattle.std.specs.Prelude.{◌≡◌, ℕ, zero, suc, List, [], ◌∷◌, ◌++◌}
use Rattle.std.specs.declared.cmp.Ordering.TheVariants.{Less, Greater}
use Rattle.std.specs.FinMap.{FinMap}
use Rattle.fx_base.specs.Text.{text_cmp}
use Rattle.fx_value.specs.declared.scalar.Scalar.{Scalar}
use Rattle.fx_data.specs.Key.{key_cmp}
use Rattle.fx_data.specs.declared.key.Key.{Key}
use Rattle.fx_data.specs.declared.table.Table.{Table}

-- the table at this place has this key
abbrev pub KeyAt : Key → List Table → ℕ → Type 0
KeyAt key [] i = ⊥
KeyAt key (t ∷ ts) zero = t.key ≡ key
KeyAt key (t ∷ ts) (suc i) = KeyAt key ts i

-- the tables with these rows behind those of the table at this place
abbrev pub with_rows_at : ℕ → List (FinMap text_cmp Scalar) → List Table → List Table
with_rows_at i rows [] = []
with_rows_at zero rows (t ∷ ts) = record { key = t.key; rows = t.rows ++ rows } ∷ ts
with_rows_at (suc i) rows (t ∷ ts) = t ∷ with_rows_at i rows ts

-- the tables before this place have lower keys, and the others greater ones
abbrev pub BelongsIn : Key → List Table → ℕ → Type 0
BelongsIn key [] i = i ≡ 0
BelongsIn key (t ∷ ts) zero = (key_cmp t.key key ≡ Greater) × BelongsIn key ts zero
BelongsIn key (t ∷ ts) (suc i) = (key_cmp t.key key ≡ Less) × BelongsIn key ts i
