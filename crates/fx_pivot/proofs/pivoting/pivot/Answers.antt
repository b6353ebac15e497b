use Rattle.std.proofs.Common.{◌≡◌, ◌≢◌, ◌∷◌, ℕ, List, sym, ap, subst, ◌∙◌, rules}
use Rattle.std.specs.FinMap as fin
use Rattle.std.specs.Prelude.{Err}
use Rattle.fx_data.specs.declared.keyed_row.KeyedRow.{KeyedRow}
use Rattle.fx_group.specs.Turned.{with_rows}
use Rattle.fx_value.specs.Calls.{Told}
use Rattle.fx_value.specs.Ends.{End, Stuck}
use Rattle.fx_value.specs.Works.{into}
use Rattle.fx_pivot.specs.Pivot.{collected, pivoted_tables, pivoted}
use Rattle.fx_pivot.proofs.Pivoted.{pivot_unstuck, pivot_gives, pivot_stops}
use Rattle.fx_pivot.proofs.pivoting.pivot.Goals as goal

pub pivot_tables-requires : goal.pivot_tables-requires
pivot_tables-requires c =
    let given : c.in_ok-collected.collected ≡ collected (c.args.value.now ∷ c.args.column_key.now) c.args.tables
    = c.in_ok-collected.ensures ∙ ap (λ (columns : List (List ℕ)). collected (c.args.value.now ∷ columns) c.args.tables) c.as_slice-columns.ensures in
    subst (λ (rows : List (List ℕ)). ◌≢◌ {A = End (List KeyedRow)} (pivoted_tables c.args.place rows c.as_slice-columns.result.now c.args.value.now c.in_ok-collected.collected) Stuck) (sym c.as_slice-rows.ensures)
    (subst (λ (columns : List (List ℕ)). ◌≢◌ {A = End (List KeyedRow)} (pivoted_tables c.args.place c.args.row_key.now columns c.args.value.now c.in_ok-collected.collected) Stuck) (sym c.as_slice-columns.ensures)
    (pivot_unstuck c.args.place c.args.row_key.now c.args.column_key.now c.args.value.now c.args.tables c.in_ok-collected.collected given c.requires))

pub returns-in_err-runs : goal.returns-in_err-runs
returns-in_err-runs c =
    let given : c.in_ok-collected.collected ≡ collected (c.args.value.now ∷ c.args.column_key.now) c.args.tables
    = c.in_ok-collected.ensures ∙ ap (λ (columns : List (List ℕ)). collected (c.args.value.now ∷ columns) c.args.tables) c.as_slice-columns.ensures in
    let why = c.in_err-runs.field-0.0 in
    let same : c.from_residual-in_err-runs.result ≡ Err c.in_err-runs.field-0.0 = search rules in
    subst (Told (pivoted c.args.place c.args.row_key.now c.args.column_key.now c.args.value.now c.args.tables)) (sym same)
    (pivot_stops c.args.place c.args.row_key.now c.args.column_key.now c.args.value.now c.args.tables c.in_ok-collected.collected given c.requires why
    (subst (λ (rows : List (List ℕ)). Told (into with_rows fin.empty (pivoted_tables c.args.place rows c.args.column_key.now c.args.value.now c.in_ok-collected.collected)) (Err why)) c.as_slice-rows.ensures
    (subst (λ (columns : List (List ℕ)). Told (into with_rows fin.empty (pivoted_tables c.args.place c.as_slice-rows.result.now columns c.args.value.now c.in_ok-collected.collected)) (Err why)) c.as_slice-columns.ensures
    c.in_err-runs.ensures)))

pub returns : goal.returns
returns c =
    let given : c.in_ok-collected.collected ≡ collected (c.args.value.now ∷ c.args.column_key.now) c.args.tables
    = c.in_ok-collected.ensures ∙ ap (λ (columns : List (List ℕ)). collected (c.args.value.now ∷ columns) c.args.tables) c.as_slice-columns.ensures in
    pivot_gives c.args.place c.args.row_key.now c.args.column_key.now c.args.value.now c.args.tables c.in_ok-collected.collected given c.requires c.in_ok-runs.runs c.in_ok-made.made
    ((λ i. into with_rows fin.empty (pivoted_tables c.args.place (sym c.as_slice-rows.ensures i) (sym c.as_slice-columns.ensures i) c.args.value.now c.in_ok-collected.collected)) ∙ c.in_ok-runs.ensures)
    c.in_ok-made.ensures
