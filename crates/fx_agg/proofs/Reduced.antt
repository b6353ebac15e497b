-- Loops that fold rows, and what they make as tables.
use Rattle.std.proofs.Common.{◌≡◌, ◌≤◌, ℕ, List, [], ◌∷◌, map, refl, sym, ap, subst, ◌∙◌}
use Rattle.std.specs.FinMap as fin
use Rattle.std.specs.Prelude.{Ok, Err}
use Rattle.std.specs.List.Sorted.{IsStrictlySortedBy}
use Rattle.fx_base.specs.Text.{text_cmp}
use Rattle.fx_base.specs.declared.halt.Halt.{Halt}
use Rattle.fx_base.specs.declared.meter.Meter.{Meter}
use Rattle.fx_data.specs.Regrouped.{regrouped}
use Rattle.fx_data.specs.Table.{HasRisingLabels}
use Rattle.fx_data.specs.declared.key.Key.{Key}
use Rattle.fx_data.specs.declared.key.KeyEntry.{KeyEntry}
use Rattle.fx_data.specs.declared.keyed_row.KeyedRow.{KeyedRow}
use Rattle.fx_data.specs.declared.table.Table.{Table}
use Rattle.fx_value.specs.Calls.{IsMetered, Ended, Answers}
use Rattle.fx_value.specs.Ends.{End, Gives, and_then, IsLimited, NeverStuck}
use Rattle.fx_value.specs.Works.{IsSteady}
use Rattle.fx_value.proofs.Ends.{steady_same, steady_then, steady_each, steady_walk, steady_into, steady_limited}
use Rattle.fx_value.proofs.Loops.{Goes, goes_begins, goes_along, goes_unstuck, goes_then, goes_ends, goes_stops, cut_unstuck, cut_answers}
use Rattle.fx_group.specs.Answer.{Row, Meaning, line_of}
use Rattle.fx_group.specs.Turned.{Groups, with_rows}
use Rattle.fx_group.proofs.Turned.{listed}
use Rattle.fx_agg.specs.Reduce.{folded, reduced_rows, pinned, all_pinned, reduced_to, reduced_table, reduced_tables, reduced, tables_reduced}
use Rattle.fx_agg.proofs.Made.{made_listed}

-- ---- one end under each limit that suffices

module _ (means : Meaning) (limited : (rows : List Row) → IsLimited (means rows)) where
  pub steady_folded : (accumulator row : Row) → IsSteady (λ n. folded means n accumulator row)
  steady_folded accumulator row =
      steady_then (means (accumulator ∷ row ∷ [])) (λ a n. line_of a) (steady_limited (means (accumulator ∷ row ∷ [])) (limited (accumulator ∷ row ∷ [])))
      (λ a. steady_same {A = Row} (line_of a))

  pub steady_rows : (identity : Row) (rows : List Row) → IsSteady (reduced_rows means identity rows)
  steady_rows identity rows = steady_walk (folded means) steady_folded identity rows

  steady_table : (identity : Row) (t : Table) → IsSteady (λ n. reduced_table means identity n t)
  steady_table identity t =
      steady_then (reduced_rows means identity t.rows) (λ row n. Gives (reduced_to t.key row ∷ []) 0) (steady_rows identity t.rows)
      (λ row. steady_same {A = List KeyedRow} (Gives (reduced_to t.key row ∷ []) 0))

  pub steady_tables : (identity : Row) (tables : List Table) → IsSteady (reduced_tables means identity tables)
  steady_tables identity tables = steady_each (reduced_table means identity) (steady_table identity) tables

  pub steady_tables_reduced : (identity : Row) (groups : Groups) (tables : List Table) → IsSteady (tables_reduced means identity groups tables)
  steady_tables_reduced identity groups tables = steady_into with_rows groups (reduced_tables means identity tables) (steady_tables identity tables)

-- ---- the loop over rows

module _ (means : Meaning) where
  -- all rows are ahead
  pub rows_begin : (identity accumulator : Row) (rows left : List Row) (meter : Meter) → meter.spent ≤ meter.budget → accumulator ≡ identity → left ≡ rows
      → Goes (reduced_rows means identity rows) (reduced_rows means accumulator left) meter meter
  rows_begin identity accumulator rows left meter within same all =
      goes_along (reduced_rows means identity rows) (reduced_rows means identity rows) (reduced_rows means accumulator left) meter meter
      (λ n i. reduced_rows means (sym same i) (sym all i) n) (goes_begins (reduced_rows means identity rows) meter within)

  -- no row is left
  pub rows_end : (identity accumulator : Row) (rows left : List Row) (before now : Meter)
      → Goes (reduced_rows means identity rows) (reduced_rows means accumulator left) before now → left ≡ []
      → Ended (reduced_rows means identity rows) (Gives accumulator) before now
  rows_end identity accumulator rows left before now goes none =
      goes_ends (reduced_rows means identity rows) accumulator before now
      (goes_along (reduced_rows means identity rows) (reduced_rows means accumulator left) (λ _. Gives accumulator 0) before now
      (λ n. ap (λ rs. reduced_rows means accumulator rs n) none) goes)

-- ---- keys

labels_same : (entries : List KeyEntry) → map (λ e. e.label) (map pinned entries) ≡ map (λ e. e.label) entries
labels_same [] = refl
labels_same (e ∷ entries) = ap (λ ls. e.label ∷ ls) (labels_same entries)

pub all_pinned_rises : (key : Key) → HasRisingLabels key → HasRisingLabels (all_pinned key)
all_pinned_rises key rising = subst (IsStrictlySortedBy text_cmp) (sym (labels_same key.entries)) rising

-- ---- `reduce` is the accumulators, regrouped and cut at the limit

module _ (means : Meaning) (identity : Row) (tables given : List Table) (groups : Groups) (same : given ≡ tables) (none : groups ≡ fin.empty) (meter : Meter)
    (within : meter.spent ≤ meter.budget) where
  abbrev whole : ℕ → End (List Table)
  whole n = and_then (reduced_tables means identity tables n) (λ rows. Gives (regrouped rows) 0)

  all_ahead : Goes whole (λ n. and_then (tables_reduced means identity groups given n) (λ made. Gives (listed made) 0)) meter meter
  all_ahead =
      goes_along whole whole (λ n. and_then (tables_reduced means identity groups given n) (λ made. Gives (listed made) 0)) meter meter
      (λ n. made_listed (reduced_tables means identity tables n)
      ∙ (λ i. and_then (tables_reduced means identity (sym none i) (sym same i) n) (λ made. Gives (listed made) 0)))
      (goes_begins whole meter within)

  pub reduce_unstuck : IsSteady (tables_reduced means identity groups given) → NeverStuck (reduced means identity tables) → NeverStuck (tables_reduced means identity groups given)
  unfolding reduced
  reduce_unstuck steady unstuck =
      goes_unstuck whole (tables_reduced means identity groups given) (λ made n. Gives (listed made) 0) meter meter all_ahead steady
      (cut_unstuck whole unstuck)

  module _ (after : Meter) (metered : IsMetered meter after) where
    pub reduce_gives : (made : Groups) → Ended (tables_reduced means identity groups given) (Gives made) meter after
        → Ended (reduced means identity tables) (Gives (listed made)) meter after
    unfolding reduced
    reduce_gives made ended =
        cut_answers whole meter after (Ok (listed made))
        (goes_ends whole (listed made) meter after
        (goes_then whole (tables_reduced means identity groups given) (λ g n. Gives (listed g) 0) meter meter all_ahead after metered made ended))

    pub reduce_stops : (why : Halt) → IsSteady (reduced_tables means identity tables) → Answers (tables_reduced means identity groups given) meter after (Err why)
        → Answers (reduced means identity tables) meter after (Err why)
    unfolding reduced
    reduce_stops why steady answer =
        cut_answers whole meter after (Err why)
        (goes_stops whole (tables_reduced means identity groups given) (λ g n. Gives (listed g) 0) meter meter all_ahead after metered why
        (steady_then (reduced_tables means identity tables) (λ rows n. Gives (regrouped rows) 0) steady (λ rows. steady_same {A = List Table} (Gives (regrouped rows) 0))) answer)
