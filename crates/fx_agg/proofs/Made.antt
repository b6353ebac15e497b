-- Rows that are made of tables, put behind groups, and the groups as tables.
use Rattle.std.proofs.Common.{◌≡◌, ◌≢◌, List, ℕ, [], ◌∷◌, map, refl, sym, ap, subst, ◌∙◌}
use Rattle.std.specs.FinMap as fin
use Rattle.std.specs.Prelude.{Err}
use Rattle.std.specs.List.Sorted.{IsStrictlySortedBy}
use Rattle.fx_base.specs.declared.halt.Halt.{Halt}
use Rattle.fx_base.specs.declared.place.Place.{Place}
use Rattle.fx_base.specs.Text.{text_cmp}
use Rattle.fx_data.specs.Gathered.{table_of}
use Rattle.fx_data.specs.Regrouped.{regrouped}
use Rattle.fx_data.specs.Table.{HasRisingLabels}
use Rattle.fx_data.specs.declared.key.Key.{Key}
use Rattle.fx_data.specs.declared.key.KeyEntry.{KeyEntry}
use Rattle.fx_data.specs.declared.keyed_row.KeyedRow.{KeyedRow}
use Rattle.fx_data.specs.declared.table.Table.{Table}
use Rattle.fx_value.specs.Calls.{Told}
use Rattle.fx_value.specs.Ends.{End, Gives, Stuck, and_then}
use Rattle.fx_value.specs.Works.{into}
use Rattle.fx_value.proofs.Ends.{then-then}
use Rattle.fx_value.proofs.Loops.{told_then, told_stops, told_unstuck}
use Rattle.fx_group.specs.Turned.{Groups, with_rows}
use Rattle.fx_group.proofs.Turned.{listed, listed_rows}
use Rattle.fx_agg.specs.declared.agg.Agg.{Agg}
use Rattle.fx_agg.specs.Aggregate.{aggregated_tables, aggregated}
use Rattle.fx_agg.specs.OneRow.{pinned_time, time_pinned}

-- to regroup what is made is to put it behind no groups and to list these
pub made_listed : (made : End (List KeyedRow))
    → and_then made (λ rows. Gives (regrouped rows) 0) ≡ and_then (into with_rows fin.empty made) (λ groups. Gives (listed groups) 0)
made_listed made =
    sym (then-then made (λ rows. Gives (with_rows fin.empty rows) 0) (λ groups. Gives (listed groups) 0)
    ∙ (λ i. and_then made (λ rows. Gives (listed_rows rows i) 0)))

module _ (place : Place) (which : Agg) (column : List ℕ) (tables : List Table) where
  abbrev made : End (List KeyedRow)
  made = aggregated_tables place which column tables

  pub aggregate_unstuck : aggregated place which column tables ≢ Stuck → made ≢ Stuck
  unfolding aggregated
  aggregate_unstuck unstuck = told_unstuck made (λ rows. Gives (regrouped rows) 0) unstuck

  pub aggregate_gives : (groups : Groups) (ts : List Table) → into with_rows fin.empty made ≡ Gives groups 0 → ts ≡ map table_of (fin.entries groups)
      → aggregated place which column tables ≡ Gives ts 0
  unfolding aggregated
  aggregate_gives groups ts gives is =
      made_listed made ∙ told_then (into with_rows fin.empty made) (λ g. Gives (listed g) 0) groups gives
      ∙ ap (λ (us : List Table). Gives us 0) (sym is)

  pub aggregate_stops : (why : Halt) → Told (into with_rows fin.empty made) (Err why) → Told (aggregated place which column tables) (Err why)
  unfolding aggregated
  aggregate_stops why told =
      subst (λ e. Told e (Err why)) (sym (made_listed made))
      (told_stops (into with_rows fin.empty made) (λ g. Gives (listed g) 0) why told)

labels_same : (entries : List KeyEntry) → map (λ e. e.label) (map pinned_time entries) ≡ map (λ e. e.label) entries
labels_same [] = refl
labels_same (e ∷ entries) = ap (λ ls. e.label ∷ ls) (labels_same entries)

pub time_pinned_rises : (key : Key) → HasRisingLabels key → HasRisingLabels (time_pinned key)
time_pinned_rises key rising = subst (IsStrictlySortedBy text_cmp) (sym (labels_same key.entries)) rising
