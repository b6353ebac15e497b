-- Rows that get content in a column.
use Rattle.std.proofs.Common.{◌≡◌, Bool, true, false, List, map, refl, sym, ap, subst, ◌∙◌}
use Rattle.std.specs.Prelude.{cond, if◌then◌else◌, Some}
use Rattle.std.specs.Cmp.{Equal-is}
use Rattle.std.specs.Cmp.Lexicographic.{nat_list_cmp_total}
use Rattle.std.specs.FinMap as fin
use Rattle.std.specs.FinMap.{FinMap}
use Rattle.std.specs.List.{AllByRecursion, flat_map}
use Rattle.std.specs.Ordering.{eq_by_cmp}
use Rattle.fx_base.specs.Text.{text_cmp}
use Rattle.fx_value.proofs.Rows.{text_same}
use Rattle.fx_value.specs.declared.scalar.Scalar.{Scalar}
use Rattle.fx_data.specs.Gathered.{gathered, grouped, table_of}
use Rattle.fx_data.specs.Key.{key_cmp}
use Rattle.fx_data.specs.Regrouped.{alone}
use Rattle.fx_data.specs.declared.key.Key.{Key}
use Rattle.fx_data.specs.declared.table.Table.{Table}
use Rattle.fx_data.specs.Table.{HasKey, IsLawfulTable}
use Rattle.fx_group.specs.Answer.{Row}
use Rattle.fx_shape.specs.Changed.{all_changed, rows_after}
use Rattle.fx_shape.specs.Columns.{Label, is_missing}
use Rattle.fx_shape.specs.Content.{given}
use Rattle.fx_shape.specs.Run.{keyed, HaveOneKey}
use Rattle.fx_shape.specs.declared.giving.Content.{Content}
use Rattle.fx_shape.specs.declared.giving.Content.TheVariants as content
use Rattle.fx_shape.proofs.Moves.{ByLabel, changed_one, keyed_after}

module _ (label : Label) (value : Scalar) where
  set_by_label : ByLabel (given (content.Value value) label)
  set_by_label = record {
    at = λ q o. cond (eq_by_cmp text_cmp q label) (Some value) o;
    is = λ row q. fin.get-insert nat_list_cmp_total row label value q;
  }

  module _ (row : Row) (q : Label) where
    same_there : eq_by_cmp text_cmp q label ≡ true → fin.get row label ≡ fin.get row q
    same_there c = ap (fin.get row) (sym (text_same q label ((Equal-is _).0 c)))

    filled_at : (m c : Bool) → m ≡ is_missing (fin.get row label) → c ≡ eq_by_cmp text_cmp q label
        → fin.get (if m then fin.insert row label value else row) q ≡ cond c (if is_missing (fin.get row q) then Some value else fin.get row q) (fin.get row q)
    filled_at true true m c =
        fin.get-insert nat_list_cmp_total row label value q ∙ ap (λ b. cond b (Some value) (fin.get row q)) (sym c)
        ∙ ap (λ b. if b then Some value else fin.get row q) (m ∙ ap is_missing (same_there (sym c)))
    filled_at true false m c = fin.get-insert nat_list_cmp_total row label value q ∙ ap (λ b. cond b (Some value) (fin.get row q)) (sym c)
    filled_at false true m c = ap (λ b. if b then Some value else fin.get row q) (m ∙ ap is_missing (same_there (sym c)))
    filled_at false false m c = refl

  filled_by_label : ByLabel (given (content.Default value) label)
  filled_by_label = record {
    at = λ q o. cond (eq_by_cmp text_cmp q label) (if is_missing o then Some value else o) o;
    is = λ row q. filled_at row q (is_missing (fin.get row label)) (eq_by_cmp text_cmp q label) refl refl;
  }

-- rows of one table with their content have one new key
given_one : (what : Content) (label : Label) (key : Key) (rows : List Row) → AllByRecursion (HasKey key.entries) rows → HaveOneKey key (map (given what label) rows)
given_one (content.Value value) label key rows h = changed_one _ (set_by_label label value) key rows h
given_one (content.Default value) label key rows h = changed_one _ (filled_by_label label value) key rows h

module _ (what : Content) (label : Label) (t : Table) (rows : List Row) (made : rows ≡ map (given what label) t.rows) where
  pub one_given : IsLawfulTable t → HaveOneKey t.key rows
  one_given lawful = subst (HaveOneKey t.key) (sym made) (given_one what label t.key t.rows lawful.columns)

  pub keyed_given : keyed t.key rows ≡ rows_after (λ key. key) (given what label) t
  keyed_given = ap (keyed t.key) made ∙ keyed_after t.key (given what label) t.rows

-- runs of the rows after their changes as tables
pub changed_is : (change : Row → Row) (tables : List Table) (runs : FinMap key_cmp (List Row)) → runs ≡ grouped (map alone (flat_map (rows_after (λ key. key) change) tables))
    → map table_of (fin.entries runs) ≡ all_changed change tables
unfolding gathered
changed_is change tables runs is = ap (λ (groups : FinMap key_cmp (List Row)). map table_of (fin.entries groups)) is
