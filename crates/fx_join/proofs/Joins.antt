-- A join is what its meetings make, regrouped and cut at the limit.
use Rattle.std.proofs.Common.{◌≡◌, ◌≤◌, ℕ, List, sym, ◌∙◌}
use Rattle.std.specs.FinMap as fin
use Rattle.std.specs.Prelude.{Ok, Err}
use Rattle.fx_base.specs.declared.halt.Halt.{Halt}
use Rattle.fx_base.specs.declared.meter.Meter.{Meter}
use Rattle.fx_data.specs.Regrouped.{regrouped}
use Rattle.fx_data.specs.declared.keyed_row.KeyedRow.{KeyedRow}
use Rattle.fx_data.specs.declared.table.Table.{Table}
use Rattle.fx_value.specs.Calls.{IsMetered, Ended, Answers}
use Rattle.fx_value.specs.Ends.{End, Gives, and_then, NeverStuck}
use Rattle.fx_value.specs.Works.{into, IsSteady}
use Rattle.fx_value.proofs.Ends.{then-then, steady_same, steady_then}
use Rattle.fx_value.proofs.Loops.{Goes, goes_begins, goes_along, goes_unstuck, goes_then, goes_ends, goes_stops, cut_unstuck, cut_answers}
use Rattle.fx_group.specs.Answer.{Meaning}
use Rattle.fx_group.specs.Turned.{Groups, with_rows}
use Rattle.fx_group.proofs.Turned.{listed, listed_rows}
use Rattle.fx_join.specs.Joined.{all_met_rows, joined, with_meetings}
use Rattle.fx_join.specs.Meet.{meetings}
use Rattle.fx_join.specs.declared.meeting.Meeting.{Meeting}
use Rattle.fx_join.specs.declared.side.Side.{Side}

-- to regroup rows that are made is to put them behind no groups and to list these
made_listed : (rows : End (List KeyedRow)) → and_then rows (λ rs. Gives (regrouped rs) 0) ≡ and_then (into with_rows fin.empty rows) (λ groups. Gives (listed groups) 0)
made_listed rows =
    sym (then-then rows (λ rs. Gives (with_rows fin.empty rs) 0) (λ groups. Gives (listed groups) 0)
    ∙ (λ i. and_then rows (λ rs. Gives (listed_rows rs i) 0)))

module _ (on both : Meaning) (side : Side) (lefts rights : List Table) (ms : List Meeting) (groups : Groups) (same : ms ≡ meetings lefts rights) (none : groups ≡ fin.empty)
    (meter : Meter) (within : meter.spent ≤ meter.budget) where
  abbrev whole : ℕ → End (List Table)
  whole n = and_then (all_met_rows on both side (meetings lefts rights) n) (λ rows. Gives (regrouped rows) 0)

  all_ahead : Goes whole (λ n. and_then (with_meetings on both side groups ms n) (λ made. Gives (listed made) 0)) meter meter
  all_ahead =
      goes_along whole whole (λ n. and_then (with_meetings on both side groups ms n) (λ made. Gives (listed made) 0)) meter meter
      (λ n. made_listed (all_met_rows on both side (meetings lefts rights) n)
      ∙ (λ i. and_then (with_meetings on both side (sym none i) (sym same i) n) (λ made. Gives (listed made) 0)))
      (goes_begins whole meter within)

  pub join_unstuck : IsSteady (with_meetings on both side groups ms) → NeverStuck (joined on both side lefts rights) → NeverStuck (with_meetings on both side groups ms)
  unfolding joined
  join_unstuck steady unstuck =
      goes_unstuck whole (with_meetings on both side groups ms) (λ made n. Gives (listed made) 0) meter meter all_ahead steady (cut_unstuck whole unstuck)

  module _ (after : Meter) (metered : IsMetered meter after) where
    pub join_gives : (made : Groups) → Ended (with_meetings on both side groups ms) (Gives made) meter after → Ended (joined on both side lefts rights) (Gives (listed made)) meter after
    unfolding joined
    join_gives made ended =
        cut_answers whole meter after (Ok (listed made))
        (goes_ends whole (listed made) meter after
        (goes_then whole (with_meetings on both side groups ms) (λ g n. Gives (listed g) 0) meter meter all_ahead after metered made ended))

    pub join_stops : (why : Halt) → IsSteady (all_met_rows on both side (meetings lefts rights)) → Answers (with_meetings on both side groups ms) meter after (Err why)
        → Answers (joined on both side lefts rights) meter after (Err why)
    unfolding joined
    join_stops why steady answer =
        cut_answers whole meter after (Err why)
        (goes_stops whole (with_meetings on both side groups ms) (λ g n. Gives (listed g) 0) meter meter all_ahead after metered why
        (steady_then (all_met_rows on both side (meetings lefts rights)) (λ rows n. Gives (regrouped rows) 0) steady (λ rows. steady_same {A = List Table} (Gives (regrouped rows) 0))) answer)
