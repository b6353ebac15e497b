use Rattle.std.proofs.Common.{◌≡◌, List, FitsSigned, w64, sym, subst, rules}
use Rattle.std.proofs.lemmas.Int.{to_z-of_z}
use Rattle.std.proofs.lemmas.Result.{IfOk-weaker}
use Rattle.std.specs.List.{flat_map, AllByRecursion}
use Rattle.fx_data.specs.Table.{HasRisingLabels}
use Rattle.fx_data.specs.declared.keyed_row.KeyedRow.{KeyedRow}
use Rattle.fx_value.specs.Ends.{Gives}
use Rattle.fx_window.specs.Plain.{uncut_all}
use Rattle.fx_window.specs.Uncut.{uncut_of}
use Rattle.fx_window.proofs.Plain.{uncut_is, uncut_all_rise}
use Rattle.fx_window.proofs.uncutting.uncut.Goals as goal

pub returns-clause-rows : goal.returns-clause-rows
returns-clause-rows c =
    let parts = c.args.parts in
    let start : FitsSigned w64 parts.start = search rules in
    let stop : FitsSigned w64 parts.stop = search rules in
    let made = simp to_z-of_z at c.rows_of.ensures.rows in
    IfOk-weaker c.rows_of.result (λ (rows : List KeyedRow). rows ≡ flat_map (uncut_all parts.start parts.stop) parts.windows) (λ (rows : List KeyedRow). uncut_of parts ≡ Gives rows 0)
    (λ rows is. uncut_is parts rows c.requires is) made

pub returns-clause-rising : goal.returns-clause-rising
returns-clause-rising c =
    let parts = c.args.parts in
    let start : FitsSigned w64 parts.start = search rules in
    let stop : FitsSigned w64 parts.stop = search rules in
    let made = simp to_z-of_z at c.rows_of.ensures.rows in
    IfOk-weaker c.rows_of.result (λ (rows : List KeyedRow). rows ≡ flat_map (uncut_all parts.start parts.stop) parts.windows)
    (λ (rows : List KeyedRow). AllByRecursion (λ (r : KeyedRow). HasRisingLabels r.key) rows)
    (λ rows is. subst (AllByRecursion (λ (r : KeyedRow). HasRisingLabels r.key)) (sym is) (uncut_all_rise parts.start parts.stop parts.windows c.rows_of.ensures.lawful)) made
