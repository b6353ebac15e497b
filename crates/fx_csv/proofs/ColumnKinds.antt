-- The kinds of the values of a column.
use Rattle.std.proofs.Common.{◌≡◌, ◌==◌, ℕ, ◌<◌, false, List, [], ◌∷◌, length, map, Option, None, Some, refl, ap, sym, ◌∙◌, arith}
use Rattle.std.specs.Prelude.{unwrap_or}
use Rattle.std.specs.Option.{option_or}
use Rattle.std.specs.List.{filter_map, slice_get}
use Rattle.std.specs.FinMap as map
use Rattle.fx_value.specs.declared.scalar.Kind.{Kind}
use Rattle.fx_value.specs.declared.scalar.Scalar.{Scalar}
use Rattle.fx_value.specs.declared.scalar.Scalar.TheVariants as scalar
use Rattle.fx_value.specs.Scalar.{kind_of}
use Rattle.fx_data.specs.declared.table.Table.{Table}
use Rattle.fx_csv.specs.Printed.{kinds_in, pinned_value}

none_of_null : {X : Type 0} (v : Scalar) → kind_of v ≡ None → (xs : List X) → filter_map kind_of (map (λ x. v) xs) ≡ []
none_of_null v h [] = refl
none_of_null v h (x ∷ xs) = rw h (none_of_null v h xs)

first_of_same : {X : Type 0} (v : Scalar) (k : Option Kind) → kind_of v ≡ k → (xs : List X) → 0 < length xs
    → kind_of v ≡ slice_get (filter_map kind_of (map (λ x. v) xs)) 0
first_of_same v k h [] some = absurd (omega arith)
first_of_same v None h (x ∷ xs) some = rw (h, none_of_null v h xs) refl
first_of_same v (Some k) h (x ∷ xs) some = rw h refl

-- a pinned value stands in each row
pub pinned_kind : (label : List ℕ) (t : Table) (v : Scalar) → pinned_value t.key.entries label ≡ Some v → 0 < length t.rows
    → kind_of v ≡ slice_get (kinds_in label t) 0
pinned_kind label t v h some =
    first_of_same v (kind_of v) refl t.rows some
    ∙ sym (ap (λ o. slice_get (filter_map kind_of (map (λ row. unwrap_or (option_or o (map.get row label)) scalar.Null) t.rows)) 0) h)

pub some_left : {X : Type 0} (xs ys : List X) → false ≡ (length xs == 0) → xs ≡ ys → 0 < length ys
some_left [] ys h is = cc h
some_left (x ∷ xs) ys h is = omega (arith, ap length is)
