-- Parts of tables' rows, table after table.
use Rattle.std.proofs.Common.{◌≡◌, ℕ, zero, suc, List, [], ◌∷◌, ◌++◌, sym, ap, subst, ◌∙◌, append_assoc, length, ◌-◌}
use Rattle.std.specs.Prelude.{take, drop}
use Rattle.std.specs.List.{AllByRecursion}
use Rattle.fx_data.specs.declared.table.Table.{Table}
use Rattle.fx_data.specs.Table.{HasKey, AreLawful}
use Rattle.fx_data.proofs.Lawful.{lawful_at, with_rows}
use Rattle.fx_group.proofs.Kept.{kept_lawful}
use Rattle.fx_group.specs.Answer.{Row}
use Rattle.fx_group.specs.Range.{left_of}
use Rattle.fx_shape.specs.Cut.{cut}
use Rattle.fx_shape.specs.Part.{parts_of}
use Rattle.fx_shape.specs.declared.part.Part.{Part}
use Rattle.fx_shape.specs.declared.part.Part.TheVariants as part

-- what holds of all rows holds of a part of them

take_all : (P : Row → Type 0) (n : ℕ) (rows : List Row) → AllByRecursion P rows → AllByRecursion P (take n rows)
take_all P zero rows h = tt
take_all P (suc n) [] h = tt
take_all P (suc n) (row ∷ rows) h = (h.0, take_all P n rows h.1)

drop_all : (P : Row → Type 0) (n : ℕ) (rows : List Row) → AllByRecursion P rows → AllByRecursion P (drop n rows)
drop_all P zero rows h = h
drop_all P (suc n) [] h = tt
drop_all P (suc n) (row ∷ rows) h = drop_all P n rows h.1

pub cut_all : (P : Row → Type 0) (which : Part) (rows : List Row) → AllByRecursion P rows → AllByRecursion P (cut which rows)
cut_all P (part.First count offset) rows h = take_all P count (drop offset rows) (drop_all P offset rows h)
cut_all P (part.Last count offset) rows h = drop_all P (length rows - offset - count) (take (length rows - offset) rows) (take_all P (length rows - offset) rows h)

module _ (which : Part) (kept rest new : List Table) (t : Table) (ts : List Table) (first : rest ≡ t ∷ ts)
    (is : new ≡ kept ++ left_of t.key t.rows (cut which t.rows)) where
  -- a table more
  pub part_goes : (whole : List Table) → kept ++ parts_of (cut which) rest ≡ whole → new ++ parts_of (cut which) ts ≡ whole
  part_goes whole same =
      ap (λ (us : List Table). us ++ parts_of (cut which) ts) is
      ∙ append_assoc kept (left_of t.key t.rows (cut which t.rows)) (parts_of (cut which) ts)
      ∙ ap (λ (us : List Table). kept ++ parts_of (cut which) us) (sym first) ∙ same

  left_lawful : (had rows : List Row) → AreLawful (kept ++ t ∷ ts) → AllByRecursion (HasKey t.key.entries) rows → AreLawful ((kept ++ left_of t.key had rows) ++ ts)
  left_lawful (h ∷ had) [] lawful columns = kept_lawful kept ts t [] lawful tt
  left_lawful (h ∷ had) (row ∷ rows) lawful columns = kept_lawful kept ts t (row ∷ rows) lawful columns
  left_lawful [] (row ∷ rows) lawful columns = kept_lawful kept ts t (row ∷ rows) lawful columns
  left_lawful [] [] lawful columns = subst AreLawful (sym (append_assoc kept (record { key = t.key; rows = [] } ∷ []) ts)) (with_rows kept ts t [] lawful tt)

  pub part_lawful : AreLawful (kept ++ rest) → AreLawful (new ++ ts)
  part_lawful lawful =
      let before : AreLawful (kept ++ t ∷ ts) = subst (λ (us : List Table). AreLawful (kept ++ us)) first lawful in
      subst (λ (us : List Table). AreLawful (us ++ ts)) (sym is)
      (left_lawful t.rows (cut which t.rows) before (cut_all (HasKey t.key.entries) which t.rows (lawful_at kept ts t before).columns))
