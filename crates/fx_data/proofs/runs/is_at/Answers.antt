use Rattle.std.proofs.Common.{ap, ◌∙◌, arith}
use Rattle.fx_data.specs.Regrouped.{new_key}
use Rattle.fx_data.specs.declared.table.Table.{Table}
use Rattle.fx_data.proofs.Placed.{key_at}
use Rattle.fx_data.proofs.runs.is_at.Goals as goal

pub returns-then-place-tables : goal.returns-then-place-tables
returns-then-place-tables c = λ t.
    key_at (new_key c.args.key.now c.args.row.now) c.args.tables.now c.args.place c.index-tables-place.result (omega arith) c.index-tables-place.is (ap (λ (u : Table). u.key) c.index-tables-place.is ∙ c.is_new_key.ensures t)
