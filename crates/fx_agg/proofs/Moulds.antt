-- What is made for all aggregate rows of a table makes each of them.
use Rattle.std.proofs.Common.{◌≡◌, ℕ, List, [], ◌∷◌, ◌++◌, refl, sym, ap, subst, ◌∙◌}
use Rattle.std.specs.FinMap as fin
use Rattle.fx_value.specs.Change.{all_changed}
use Rattle.fx_value.specs.Row.{row_of}
use Rattle.fx_value.specs.declared.change.Change.{Change}
use Rattle.fx_value.specs.declared.change.Change.TheVariants.{Set}
use Rattle.fx_value.specs.declared.scalar.Scalar.{Scalar}
use Rattle.fx_value.specs.declared.scalar.Scalar.TheVariants.{Null}
use Rattle.fx_value.specs.declared.source.Source.TheVariants.{First}
use Rattle.fx_value.proofs.Rows.{row_of-insert, row_of-empty, row_all_changed}
use Rattle.fx_data.specs.Table.{HasRisingLabels}
use Rattle.fx_data.specs.declared.key.Key.{Key}
use Rattle.fx_group.specs.Answer.{Row}
use Rattle.fx_agg.specs.declared.one_row.Mould.{Mould}
use Rattle.fx_agg.specs.Mould.{key_head, IsMould}
use Rattle.fx_agg.specs.OneRow.{key_changes, aggregate_row, time_pinned}
use Rattle.fx_agg.proofs.Made.{time_pinned_rises}

changed_last : (changes : List Change) (label : List ℕ) (value : Scalar) (row : Row)
    → all_changed (changes ++ Set label value ∷ []) row ≡ fin.insert (all_changed changes row) label value
changed_last [] label value row = refl
changed_last (change ∷ changes) label value row = changed_last changes label value (Rattle.fx_value.specs.Change.changed change row)

-- the row that takes the column's value as its first one
pub moulded : (key : Key) (column : List ℕ) (value : Scalar)
    → row_of (fin.insert (key_head key) column First) value Null ≡ aggregate_row key column value
moulded key column value =
    row_of-insert value Null (key_head key) column First
    ∙ ap (λ row. fin.insert row column value) (row_all_changed value Null (key_changes key) fin.empty (key_head key) fin.empty (row_of-empty value Null) refl)
    ∙ sym (changed_last (key_changes key) column value fin.empty)

-- what is made for a key and a column, from its parts
pub is_mould : (key : Key) (column : List ℕ) (mould : Mould) → mould.shape ≡ fin.insert (key_head key) column First → mould.key ≡ time_pinned key
    → IsMould key column mould
is_mould key column mould shape is =
    λ value. (λ i. record { key = is i; row = row_of (shape i) value Null }) ∙ ap (λ row. record { key = time_pinned key; row = row }) (moulded key column value)

-- its rows go under a key whose labels rise
pub mould_rises : (key : Key) (column : List ℕ) (mould : Mould) → HasRisingLabels key → IsMould key column mould → HasRisingLabels mould.key
mould_rises key column mould rising is =
    subst HasRisingLabels (sym (ap (λ r. r.key) (is Null))) (time_pinned_rises key rising)
