use Rattle.std.proofs.Common.{◌≡◌, List, map}
use Rattle.std.proofs.lemmas.Result.{IfOk-weaker}
use Rattle.std.specs.FinMap as fin
use Rattle.std.specs.List.{flat_map}
use Rattle.fx_data.specs.Gathered.{table_of}
use Rattle.fx_data.specs.Regrouped.{regrouped}
use Rattle.fx_data.specs.declared.table.Table.{Table}
use Rattle.fx_window.specs.Plain.{copies_all}
use Rattle.fx_window.proofs.Plain.{windows_listed}
use Rattle.fx_window.proofs.windowing.in_windows.Goals as goal

pub returns : goal.returns
returns c =
    let f = c.in_ok-frame.frame in
    IfOk-weaker c.into_tables.result (λ (t : List Table). t ≡ map table_of (fin.entries c.in_ok-runs.runs)) (λ (t : List Table). t ≡ regrouped (flat_map (copies_all c.args.every c.args.period) c.args.tables))
    (λ t is. windows_listed f.every f.period c.args.every c.args.period c.in_ok-frame.ensures.every c.in_ok-frame.ensures.period c.args.tables c.in_ok-runs.runs t c.in_ok-runs.ensures is)
    c.into_tables.ensures
