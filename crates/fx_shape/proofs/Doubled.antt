-- Rows in which one column is what another one is.
use Rattle.std.proofs.Common.{◌≡◌, Bool, true, false, not, List, [], ◌∷◌, map, refl, sym, ap, subst, ◌∙◌}
use Rattle.std.specs.Prelude.{cond, Option, None, Some}
use Rattle.std.specs.Bool.{OnTrue}
use Rattle.std.specs.Cmp.Lexicographic.{nat_list_cmp_total}
use Rattle.std.specs.FinMap as fin
use Rattle.std.specs.List.{AllByRecursion}
use Rattle.fx_base.specs.Text.{same_text}
use Rattle.fx_value.specs.declared.scalar.Scalar.{Scalar}
use Rattle.fx_data.specs.declared.key.Key.{Key}
use Rattle.fx_data.specs.declared.table.Table.{Table}
use Rattle.fx_data.specs.Table.{HasKey}
use Rattle.fx_group.specs.Answer.{Row}
use Rattle.fx_shape.specs.Changed.{rows_after}
use Rattle.fx_shape.specs.Columns.{Label, as_there, doubled}
use Rattle.fx_shape.specs.Run.{has_label, keyed, HaveOneKey}
use Rattle.fx_shape.proofs.Left.{tied}
use Rattle.fx_shape.proofs.Moves.{beside_key, kept_one, keyed_after}

there_beside : (value : Option Scalar) (copy : Label) (row : Row) (q : Label) → same_text q copy ≡ false → fin.get (as_there value copy row) q ≡ fin.get row q
there_beside None copy row q apart = fin.get-remove nat_list_cmp_total row copy q ∙ ap (λ b. cond b None (fin.get row q)) (tied q copy ∙ apart)
there_beside (Some value) copy row q apart = fin.get-insert nat_list_cmp_total row copy value q ∙ ap (λ b. cond b (Some value) (fin.get row q)) (tied q copy ∙ apart)

module _ (label copy : Label) (key : Key) where
  -- where the key lacks the copy, the rows keep it
  doubled_have : has_label key copy ≡ false → (rows : List Row) → AllByRecursion (HasKey key.entries) rows → AllByRecursion (HasKey key.entries) (map (doubled label copy) rows)
  doubled_have lacks [] h = tt
  doubled_have lacks (row ∷ rows) h =
      (beside_key copy row (doubled label copy row) (there_beside (fin.get row label) copy row) key.entries lacks h.0, doubled_have lacks rows h.1)

  one_doubled : (rows : List Row) (lacks one : Bool) → lacks ≡ has_label key copy → one ≡ not lacks → AllByRecursion (HasKey key.entries) rows → OnTrue one (HaveOneKey key (map (doubled label copy) rows))
  one_doubled rows false true lacks is h = kept_one key (map (doubled label copy) rows) (doubled_have (sym lacks) rows h)
  one_doubled rows true false lacks is h = tt
  one_doubled rows true true lacks is h = cc
  one_doubled rows false false lacks is h = tt

module _ (label copy : Label) (t : Table) (rows : List Row) (made : rows ≡ map (doubled label copy) t.rows) where
  pub one_where : (one : Bool) → one ≡ not (has_label t.key copy) → AllByRecursion (HasKey t.key.entries) t.rows → OnTrue one (HaveOneKey t.key rows)
  one_where one is h = subst (λ (rs : List Row). OnTrue one (HaveOneKey t.key rs)) (sym made) (one_doubled label copy t.key t.rows (has_label t.key copy) one refl is h)

  pub keyed_doubled : keyed t.key rows ≡ rows_after (λ key. key) (doubled label copy) t
  keyed_doubled = ap (keyed t.key) made ∙ keyed_after t.key (doubled label copy) t.rows
