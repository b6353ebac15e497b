-- Operators that choose a row of each table are safe.
use Rattle.std.proofs.Common.{◌≡◌, refl, sym, subst, Bool, true, false, List, [], ◌∷◌, map, Option, Some, None}
use Rattle.std.specs.Prelude.{if◌then◌else◌, codes, option_to_list}
use Rattle.std.specs.FinMap.{get}
use Rattle.std.specs.List.{AllByRecursion}
use Rattle.fx_base.specs.declared.place.Place.{Place}
use Rattle.fx_value.specs.Ends.{Gives}
use Rattle.fx_value.specs.declared.scalar.Scalar.{Scalar}
use Rattle.fx_value.specs.declared.scalar.Scalar.TheVariants as scalar
use Rattle.fx_types.specs.Ground.{GroundRow, g_stream}
use Rattle.fx_types.specs.Term.{Label}
use Rattle.fx_data.specs.Regrouped.{regrouped}
use Rattle.fx_data.specs.Table.{HasRisingLabels}
use Rattle.fx_data.specs.declared.key.Key.{Key}
use Rattle.fx_data.specs.declared.table.Table.{Table}
use Rattle.fx_agg.specs.Aggregate.{aggregated, aggregated_table, aggregated_tables}
use Rattle.fx_agg.specs.Chosen.{Candidate, best, better, candidate, candidate_by, chosen, stays}
use Rattle.fx_agg.specs.OneRow.{keyed}
use Rattle.fx_agg.specs.declared.agg.Agg.{Agg}
use Rattle.fx_agg.specs.declared.agg.Agg.TheVariants.{First, Last, Max, Min}
use Rattle.fx_schemes.specs.Builtins.{IsLine}
use Rattle.fx_schemes.specs.Given.{text_at}
use Rattle.fx_schemes.specs.Line.{from_tables, parameters, put}
use Rattle.fx_meaning.specs.declared.stream.StreamFn.TheVariants as s
use Rattle.fx_meaning.specs.Meaning.{Tests}
use Rattle.fx_meaning.specs.Rows.{Row}
use Rattle.fx_plan.specs.Operators.{at_column}
use Rattle.fx_build.specs.Rows.{RowFits, TableFits, TablesFit}
use Rattle.fx_build.specs.Safe.{IsSafe}
use Rattle.fx_plan.specs.Sources.{Stored}
use Rattle.fx_build.proofs.ColumnCalls.{word_safe}
use Rattle.fx_build.proofs.OperatorCalls.{OperatorIsSafe, by_line, one_safe}
use Rattle.fx_build.proofs.SafeLaws.{safe_then}
use Rattle.fx_build.proofs.TableLaws.{KeyedFits, flat_each_safe, regrouped_all}

module _ (P : Row → Type 0) where
  abbrev pub Is : Option Candidate → Type 0
  Is None = Unit {0}
  Is (Some c) = P c.1

  candidate_is : (o : Option Scalar) (row : Row) → P row → Is (candidate_by o row)
  candidate_is None row h = tt
  candidate_is (Some scalar.Null) row h = tt
  candidate_is (Some (scalar.Bool b)) row h = h
  candidate_is (Some (scalar.Int n)) row h = h
  candidate_is (Some (scalar.Text t)) row h = h
  candidate_is (Some (scalar.Time t)) row h = h

  better_is : (keeps : Scalar → Scalar → Bool) (a b : Option Candidate) → Is a → Is b → Is (better keeps a b)
  better_is keeps None b h k = k
  better_is keeps (Some a) None h k = h
  better_is keeps (Some a) (Some b) h k = at (keeps a.0 b.0)
    where
      at : (c : Bool) → Is (Some (if c then a else b))
      at true = h
      at false = k

  pub best_is : (keeps : Scalar → Scalar → Bool) (column : Label) (rows : List Row) → AllByRecursion P rows → Is (best keeps column rows)
  best_is keeps column [] h = tt
  best_is keeps column (row ∷ rows) h =
      better_is keeps (candidate column row) (best keeps column rows) (candidate_is (get row column) row h.0) (best_is keeps column rows h.1)

module _ (q : GroundRow) where
  pub chosen_all : (which : Agg) (key : Key) (column : Label) (rows : List Row) → HasRisingLabels key → AllByRecursion (RowFits q) rows → AllByRecursion (KeyedFits q) (map (keyed key) (chosen which column rows))
  chosen_all which key column rows rising h = one (best (stays which) column rows) (best_is (RowFits q) (stays which) column rows h)
    where
      one : (o : Option Candidate) → Is (RowFits q) o → AllByRecursion (KeyedFits q) (map (keyed key) (map (λ c. c.1) (option_to_list o)))
      one None h = tt
      one (Some c) h = ((rising, h), tt)

  pub chosen_safe : (place : Place) (which : Agg) (column : Label) (tables : List Table) → ((t : Table) → aggregated_table place which column t ≡ Gives (map (keyed t.key) (chosen which column t.rows)) 0)
      → TablesFit q tables → IsSafe (TablesFit q) (aggregated place which column tables)
  unfolding aggregated
  chosen_safe place which column tables made h =
      safe_then (AllByRecursion (KeyedFits q)) (TablesFit q) (aggregated_tables place which column tables) (λ rows. Gives (regrouped rows) 0)
      (flat_each_safe (TableFits q) (KeyedFits q) (aggregated_table place which column) tables h
      (λ t all. subst (IsSafe (AllByRecursion (KeyedFits q))) (sym (made t)) (chosen_all which t.key column t.rows all.0.0 all.1)))
      (λ rows all. regrouped_all q rows all)

module _ (test : Tests) (stored : Stored) where
  pub min_safe : OperatorIsSafe test stored s.Min
  unfolding IsLine
  min_safe place w L needs input r args limit tss line =
      let q = line.2.0 in
      let out = line.2.1 in
      by_line test stored s.Min w (from_tables q (codes "column" ∷ []) [] [] (g_stream out)) _ _ _ refl
      (λ place args limit tss is have further. one_safe (TablesFit out) (put (codes "tables") (g_stream q) (parameters [])) (codes "tables") q (at_column (aggregated place Min) w) tss refl have
      (λ ts fit. word_safe (TablesFit out) (text_at w (codes "column") (Some (codes "_value"))) line.0 (λ column. aggregated place Min column ts) line.1
      (subst (λ p. IsSafe (TablesFit p) (aggregated place Min line.0 ts)) (sym line.2.2.3) (chosen_safe q place Min line.0 ts (λ t. refl) fit)))) place L needs input r args limit tss line.2.3

  pub max_safe : OperatorIsSafe test stored s.Max
  unfolding IsLine
  max_safe place w L needs input r args limit tss line =
      let q = line.2.0 in
      let out = line.2.1 in
      by_line test stored s.Max w (from_tables q (codes "column" ∷ []) [] [] (g_stream out)) _ _ _ refl
      (λ place args limit tss is have further. one_safe (TablesFit out) (put (codes "tables") (g_stream q) (parameters [])) (codes "tables") q (at_column (aggregated place Max) w) tss refl have
      (λ ts fit. word_safe (TablesFit out) (text_at w (codes "column") (Some (codes "_value"))) line.0 (λ column. aggregated place Max column ts) line.1
      (subst (λ p. IsSafe (TablesFit p) (aggregated place Max line.0 ts)) (sym line.2.2.3) (chosen_safe q place Max line.0 ts (λ t. refl) fit)))) place L needs input r args limit tss line.2.3

  pub first_safe : OperatorIsSafe test stored s.First
  unfolding IsLine
  first_safe place w L needs input r args limit tss line =
      let q = line.2.0 in
      let out = line.2.1 in
      by_line test stored s.First w (from_tables q (codes "column" ∷ []) [] [] (g_stream out)) _ _ _ refl
      (λ place args limit tss is have further. one_safe (TablesFit out) (put (codes "tables") (g_stream q) (parameters [])) (codes "tables") q (at_column (aggregated place First) w) tss refl have
      (λ ts fit. word_safe (TablesFit out) (text_at w (codes "column") (Some (codes "_value"))) line.0 (λ column. aggregated place First column ts) line.1
      (subst (λ p. IsSafe (TablesFit p) (aggregated place First line.0 ts)) (sym line.2.2.3) (chosen_safe q place First line.0 ts (λ t. refl) fit)))) place L needs input r args limit tss line.2.3

  pub last_safe : OperatorIsSafe test stored s.Last
  unfolding IsLine
  last_safe place w L needs input r args limit tss line =
      let q = line.2.0 in
      let out = line.2.1 in
      by_line test stored s.Last w (from_tables q (codes "column" ∷ []) [] [] (g_stream out)) _ _ _ refl
      (λ place args limit tss is have further. one_safe (TablesFit out) (put (codes "tables") (g_stream q) (parameters [])) (codes "tables") q (at_column (aggregated place Last) w) tss refl have
      (λ ts fit. word_safe (TablesFit out) (text_at w (codes "column") (Some (codes "_value"))) line.0 (λ column. aggregated place Last column ts) line.1
      (subst (λ p. IsSafe (TablesFit p) (aggregated place Last line.0 ts)) (sym line.2.2.3) (chosen_safe q place Last line.0 ts (λ t. refl) fit)))) place L needs input r args limit tss line.2.3
