use Rattle.std.proofs.Common.{◌≡◌, List, map, sym, ap, subst, ◌∙◌}
use Rattle.std.proofs.lemmas.Result.{IfOk-weaker}
use Rattle.std.specs.FinMap as fin
use Rattle.std.specs.List.{flat_map, AllByRecursion}
use Rattle.fx_time.specs.declared.span.Span.{Span}
use Rattle.fx_data.specs.Gathered.{table_of}
use Rattle.fx_data.specs.Table.{HasKey}
use Rattle.fx_data.specs.declared.keyed_row.KeyedRow.{KeyedRow}
use Rattle.fx_data.specs.declared.table.Table.{Table}
use Rattle.fx_group.specs.Turned.{with_rows}
use Rattle.fx_window.specs.Cut.{within, windows_of}
use Rattle.fx_window.specs.Window.{copies}
use Rattle.fx_window.specs.declared.standing.Placed.{Placed}
use Rattle.fx_window.proofs.Cuts.{within_copies, within_all, windows_are}
use Rattle.fx_window.proofs.cutting.windows_within.Goals as goal

pub push_batches-requires-clause-all : goal.push_batches-requires-clause-all
push_batches-requires-clause-all c =
    let entries = c.args.key.now.entries in
    c.in_ok-batches.ensures.all entries
    (subst (λ (ps : List Placed). AllByRecursion (λ (p : Placed). HasKey entries p.row) ps) (sym c.all_within-placed.ensures) (within_all entries c.args.bounds c.args.placed.items c.requires.columns))

pub returns : goal.returns
returns c =
    let every = c.args.frame.now.every in
    let key = c.args.key.now in
    let b = c.args.bounds in
    let ps = c.args.placed.items in
    let copied : List KeyedRow = flat_map (λ (p : Placed). copies every every key (within b p)) ps in
    let none = c.empty.result in
    IfOk-weaker c.into_tables.result (λ (t : List Table). t ≡ map table_of (fin.entries c.in_ok-runs-2.runs)) (λ (t : List Table). t ≡ windows_of every c.args.create_empty b key ps)
    (λ t is. windows_are every c.args.create_empty b key ps none c.in_ok-runs.runs c.in_ok-runs-2.runs t c.empty.ensures
    (c.in_ok-runs.ensures ∙ ap (λ (rows : List KeyedRow). with_rows none rows)
    (c.in_ok-batches.ensures.made key ∙ ap (λ (period : Span). flat_map (copies every period key) c.all_within-placed.result.items) c.requires.same
    ∙ ap (λ (qs : List Placed). flat_map (copies every every key) qs) c.all_within-placed.ensures ∙ within_copies every b key ps))
    c.in_ok-runs-2.ensures is)
    c.into_tables.ensures
