use Rattle.std.proofs.Common.{◌≡◌, [], ◌∷◌, ◌++◌, arith}
use Rattle.std.proofs.lemmas.Result.{IfOk-weaker}
use Rattle.std.specs.Prelude.{slice_set}
use Rattle.fx_data.specs.Placed.{with_rows_at}
use Rattle.fx_data.proofs.Placed.{set_is}
use Rattle.fx_data.proofs.runs.push_row_at.Goals as goal

pub returns : goal.returns
returns c =
    let t = c.index_mut.result.now in
    IfOk-weaker c.push_row.result (λ _. c.push_row.new.table ≡ record t { rows = t.rows ++ (c.args.row ∷ []) })
    (λ _. slice_set c.args.tables.now.items c.args.place c.push_row.new.table ≡ with_rows_at c.args.place (c.args.row ∷ []) c.args.tables.now.items)
    (λ _ is. set_is c.args.tables.now.items c.args.place t c.push_row.new.table (c.args.row ∷ []) (omega (arith, c.requires)) c.index_mut.ensures.value is)
    c.push_row.ensures
