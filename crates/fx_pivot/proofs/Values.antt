-- Rows with values under labels, label by label.
use Rattle.std.proofs.Common.{◌≡◌, ℕ, zero, suc, ◌+◌, List, [], ◌∷◌, drop, refl, sym, ap, ◌∙◌, arith}
use Rattle.std.specs.Prelude.{slice_get}
use Rattle.fx_group.specs.Answer.{Row}
use Rattle.fx_value.specs.declared.scalar.Scalar.{Scalar}
use Rattle.fx_pivot.specs.Cells.{with_values}
use Rattle.fx_pivot.specs.Ordered.{with_value}

no_values : (labels : List (List ℕ)) (row : Row) → with_values labels [] row ≡ row
no_values [] row = refl
no_values (l ∷ labels) row = refl

values_first : (label : List ℕ) (labels : List (List ℕ)) (values : List Scalar) (i : ℕ) (row : Row)
    → with_values labels (drop (suc i) values) (with_value row label (slice_get values i)) ≡ with_values (label ∷ labels) (drop i values) row
values_first label labels [] zero row = no_values labels row
values_first label labels [] (suc i) row = no_values labels row
values_first label labels (v ∷ values) zero row = refl
values_first label labels (v ∷ values) (suc i) row = values_first label labels values i row

-- one more label
pub values_more : (labels : List (List ℕ)) (values : List Scalar) (i : ℕ) (label : List ℕ) (row : Row) → drop i labels ≡ label ∷ drop (i + 1) labels
    → with_values (drop (i + 1) labels) (drop (i + 1) values) (with_value row label (slice_get values i)) ≡ with_values (drop i labels) (drop i values) row
values_more labels values i label row is =
    let next : i + 1 ≡ suc i = omega arith in
    ap (λ n. with_values (drop (i + 1) labels) (drop n values) (with_value row label (slice_get values i))) next
    ∙ values_first label (drop (i + 1) labels) values i row ∙ ap (λ ls. with_values ls (drop i values) row) (sym is)
