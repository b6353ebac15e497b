-- Tables whose rows are put in order, one after another.
use Rattle.std.proofs.Common.{◌≡◌, Bool, List, [], ◌∷◌, ◌++◌, map, sym, ap, subst, ◌∙◌, append_assoc}
use Rattle.fx_data.specs.declared.table.Table.{Table}
use Rattle.fx_data.specs.Table.{AreLawful, HasKey}
use Rattle.fx_data.proofs.Lawful.{lawful_at, with_rows}
use Rattle.fx_shape.specs.Columns.{Label}
use Rattle.fx_shape.specs.Sort.{directed_cmp, in_order, table_sorted}
use Rattle.fx_shape.proofs.InOrder.{in_order_has}

module _ (columns : List Label) (desc : Bool) (made rest new : List Table) (t : Table) (ts : List Table) (first : rest ≡ t ∷ ts) (is : new ≡ made ++ table_sorted columns desc t ∷ []) where
  pub sorted_goes : (whole : List Table) → made ++ map (table_sorted columns desc) rest ≡ whole → new ++ map (table_sorted columns desc) ts ≡ whole
  sorted_goes whole same =
      ap (λ (us : List Table). us ++ map (table_sorted columns desc) ts) is
      ∙ append_assoc made (table_sorted columns desc t ∷ []) (map (table_sorted columns desc) ts)
      ∙ ap (λ (us : List Table). made ++ map (table_sorted columns desc) us) (sym first) ∙ same

  pub sorted_lawful : AreLawful (made ++ rest) → AreLawful (new ++ ts)
  sorted_lawful lawful =
      let before : AreLawful (made ++ t ∷ ts) = subst (λ (us : List Table). AreLawful (made ++ us)) first lawful in
      let columns_of = (lawful_at made ts t before).columns in
      let after : AreLawful (made ++ table_sorted columns desc t ∷ ts) = with_rows made ts t (in_order (directed_cmp desc columns) t.rows) before (in_order_has (HasKey t.key.entries) desc columns t.rows columns_of) in
      subst (λ (us : List Table). AreLawful (us ++ ts)) (sym is) (subst AreLawful (sym (append_assoc made (table_sorted columns desc t ∷ []) ts)) after)
