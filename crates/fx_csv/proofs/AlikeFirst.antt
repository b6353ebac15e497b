-- The first of alike rows has the labels of all.
use Rattle.std.proofs.Common.{◌≡◌, ℕ, ◌<◌, List, [], ◌∷◌, length, get_or, sym, ap, ◌∙◌, arith}
use Rattle.std.specs.FinMap as map
use Rattle.std.specs.List.{flat_map, fold}
use Rattle.std.specs.BTreeSet.{insert_key}
use Rattle.fx_base.specs.Text.{text_cmp}
use Rattle.fx_value.specs.declared.scalar.Scalar.{Scalar}
use Rattle.fx_csv.specs.Alike.{AreAlike}
use Rattle.fx_csv.specs.Columns.{column_cmp, column_cmp_total}
use Rattle.fx_csv.proofs.Inserted.{inserted_alike}

pub told_by_first : (names : List (List ℕ)) (rows : List (map.FinMap text_cmp Scalar)) (first : map.FinMap text_cmp Scalar) → 0 < length rows → first ≡ get_or rows 0 first → AreAlike rows
    → fold (insert_key column_cmp) names (flat_map map.keys (first ∷ [])) ≡ fold (insert_key column_cmp) names (flat_map map.keys rows)
told_by_first names [] first some is h = absurd (omega arith)
told_by_first names (row ∷ rows) first some is h =
    ap (λ r. fold (insert_key column_cmp) names (flat_map map.keys (r ∷ []))) is
    ∙ inserted_alike column_cmp column_cmp_total map.keys names row rows h
