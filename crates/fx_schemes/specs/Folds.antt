-- The functions that `aggregateWindow` takes by name, and what they make of a column.
use Rattle.std.specs.Prelude.{List, [], ◌∷◌, Option, codes}
use Rattle.fx_base.specs.Text.{text_cmp}
use Rattle.fx_table.specs.CaseTable.{value_at}
use Rattle.fx_types.specs.Term.{Label}
use Rattle.fx_schemes.specs.declared.fold.Fold.{Fold}
use Rattle.fx_schemes.specs.declared.fold.Fold.TheVariants as fold

unfoldable pub folds : List (Label × Fold)
folds =
    (codes "count", fold.Count)
    ∷ (codes "first", fold.End)
    ∷ (codes "last", fold.End)
    ∷ (codes "max", fold.Extreme)
    ∷ (codes "min", fold.Extreme)
    ∷ (codes "spread", fold.Sum)
    ∷ (codes "sum", fold.Sum)
    ∷ []

unfoldable pub fold_of : Label → Option Fold
fold_of name = value_at text_cmp name folds
