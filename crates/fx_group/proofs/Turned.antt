-- Rows that are made and put behind groups, and groups as tables.
use Rattle.std.proofs.Common.{◌≡◌, ◌≤◌, ℕ, List, [], ◌∷◌, ◌++◌, map, refl, sym, ap, ◌∙◌}
use Rattle.std.proofs.lemmas.List.{map-append}
use Rattle.std.specs.FinMap as fin
use Rattle.std.specs.Prelude.{Ok, Err}
use Rattle.fx_base.specs.declared.halt.Halt.{Halt}
use Rattle.fx_base.specs.declared.meter.Meter.{Meter}
use Rattle.fx_data.specs.Gathered.{gathered, table_of}
use Rattle.fx_data.specs.Regrouped.{joined, all_joined, alone, regrouped}
use Rattle.fx_data.specs.declared.keyed_row.KeyedRow.{KeyedRow}
use Rattle.fx_data.specs.declared.table.Table.{Table}
use Rattle.fx_data.proofs.Regrouped.{joined_empty}
use Rattle.fx_group.specs.Answer.{Meaning}
use Rattle.fx_group.specs.Map.{mapped_tables, mapped}
use Rattle.fx_group.specs.Turned.{Groups, with_rows, tables_turned}
use Rattle.fx_value.specs.Calls.{IsMetered, Ended, Answers}
use Rattle.fx_value.specs.Ends.{End, Gives, and_then, NeverStuck}
use Rattle.fx_value.specs.Works.{IsSteady}
use Rattle.fx_value.proofs.Ends.{then-then, steady_same, steady_then}
use Rattle.fx_value.proofs.Loops.{Goes, goes_begins, goes_along, goes_unstuck, goes_then, goes_ends, goes_stops, cut_unstuck, cut_answers}

pub joined_both : (groups : Groups) (ts us : List Table) → all_joined groups (ts ++ us) ≡ all_joined (all_joined groups ts) us
joined_both groups [] us = refl
joined_both groups (t ∷ ts) us = joined_both (joined groups t) ts us

-- rows in two parts, one after the other
pub with_both : (groups : Groups) (rows more : List KeyedRow) → with_rows groups (rows ++ more) ≡ with_rows (with_rows groups rows) more
with_both groups rows more = ap (all_joined groups) (map-append alone rows more) ∙ joined_both groups (map alone rows) (map alone more)

-- groups as tables, in key order
abbrev pub listed : Groups → List Table
listed groups = map table_of (fin.entries groups)

pub listed_rows : (rows : List KeyedRow) → listed (with_rows fin.empty rows) ≡ regrouped rows
unfolding gathered
listed_rows rows = ap listed (joined_empty (map alone rows))

-- `map` without the cut at its limit
abbrev pub all_mapped : Meaning → List Table → ℕ → End (List Table)
all_mapped means tables limit = and_then (mapped_tables means tables limit) (λ rows. Gives (regrouped rows) 0)

-- to regroup what is made is to put it behind no groups and to list these
pub mapped_listed : (means : Meaning) (tables : List Table) (limit : ℕ)
    → all_mapped means tables limit ≡ and_then (tables_turned means fin.empty tables limit) (λ groups. Gives (listed groups) 0)
mapped_listed means tables limit =
    sym (then-then (mapped_tables means tables limit) (λ rows. Gives (with_rows fin.empty rows) 0) (λ groups. Gives (listed groups) 0)
    ∙ (λ i. and_then (mapped_tables means tables limit) (λ rows. Gives (listed_rows rows i) 0)))

pub steady_mapped : (means : Meaning) (tables : List Table) → IsSteady (mapped_tables means tables) → IsSteady (all_mapped means tables)
steady_mapped means tables steady =
    steady_then (mapped_tables means tables) (λ rows n. Gives (regrouped rows) 0) steady (λ rows. steady_same {A = List Table} (Gives (regrouped rows) 0))

-- ---- `map` is this work, cut at the limit

module _ (means : Meaning) (tables given : List Table) (groups : Groups) (same : given ≡ tables) (none : groups ≡ fin.empty) (meter : Meter) (within : meter.spent ≤ meter.budget)
  where
    all_ahead : Goes (all_mapped means tables) (λ n. and_then (tables_turned means groups given n) (λ made. Gives (listed made) 0)) meter meter
    all_ahead =
        goes_along (all_mapped means tables) (all_mapped means tables) (λ n. and_then (tables_turned means groups given n) (λ made. Gives (listed made) 0)) meter meter
        (λ n. mapped_listed means tables n ∙ (λ i. and_then (tables_turned means (sym none i) (sym same i) n) (λ made. Gives (listed made) 0)))
        (goes_begins (all_mapped means tables) meter within)

    pub map_unstuck : IsSteady (tables_turned means groups given) → NeverStuck (mapped means tables) → NeverStuck (tables_turned means groups given)
    unfolding mapped
    map_unstuck steady unstuck =
        goes_unstuck (all_mapped means tables) (tables_turned means groups given) (λ made n. Gives (listed made) 0) meter meter all_ahead steady
        (cut_unstuck (all_mapped means tables) unstuck)

    module _ (after : Meter) (metered : IsMetered meter after) where
      pub map_gives : (made : Groups) → Ended (tables_turned means groups given) (Gives made) meter after → Ended (mapped means tables) (Gives (listed made)) meter after
      unfolding mapped
      map_gives made ended =
          cut_answers (all_mapped means tables) meter after (Ok (listed made))
          (goes_ends (all_mapped means tables) (listed made) meter after
          (goes_then (all_mapped means tables) (tables_turned means groups given) (λ g n. Gives (listed g) 0) meter meter all_ahead after metered made ended))

      pub map_stops : (why : Halt) → IsSteady (mapped_tables means tables) → Answers (tables_turned means groups given) meter after (Err why)
          → Answers (mapped means tables) meter after (Err why)
      unfolding mapped
      map_stops why steady answer =
          cut_answers (all_mapped means tables) meter after (Err why)
          (goes_stops (all_mapped means tables) (tables_turned means groups given) (λ g n. Gives (listed g) 0) meter meter all_ahead after metered why
          (steady_mapped means tables steady) answer)
