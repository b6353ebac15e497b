use Rattle.std.proofs.Common.{◌≡◌, List, sym, ap, subst, ◌∙◌}
use Rattle.std.specs.List.{flat_map, AllByRecursion}
use Rattle.std.specs.Prelude.{IfOk}
use Rattle.fx_data.specs.Table.{HasKey}
use Rattle.fx_data.specs.declared.keyed_row.KeyedRow.{KeyedRow}
use Rattle.fx_group.specs.Turned.{Groups, with_rows}
use Rattle.fx_window.specs.Window.{copies}
use Rattle.fx_window.specs.declared.standing.Placed.{Placed}
use Rattle.fx_window.proofs.Plain.{placed_has}
use Rattle.fx_window.proofs.windowing.push_windowed.Goals as goal

pub push_batches-requires-clause-all : goal.push_batches-requires-clause-all
push_batches-requires-clause-all c =
    let entries = c.args.table.key.entries in
    c.in_ok-batches.ensures.all entries
    (subst (λ (ps : List Placed). AllByRecursion (λ (p : Placed). HasKey entries p.row) ps) (sym c.in_ok-placed.ensures) (placed_has entries c.args.table.rows c.requires.lawful.columns))

pub returns : goal.returns
returns c =
    let f = c.args.frame.now in
    subst (λ (rows : List KeyedRow). IfOk c.push_batches.result (λ (g : Groups). g ≡ with_rows c.args.runs rows))
    (c.in_ok-batches.ensures.made c.args.table.key ∙ ap (λ (ps : List Placed). flat_map (copies f.every f.period c.args.table.key) ps) c.in_ok-placed.ensures)
    c.push_batches.ensures
