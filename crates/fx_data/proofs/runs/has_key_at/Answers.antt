use Rattle.std.proofs.Common.{sym, ap, ◌∙◌, arith}
use Rattle.std.specs.Cmp.{Equal-is}
use Rattle.fx_data.specs.declared.table.Table.{Table}
use Rattle.fx_data.proofs.Keys.{key_same}
use Rattle.fx_data.proofs.Placed.{key_at}
use Rattle.fx_data.proofs.runs.has_key_at.Goals as goal

pub returns-then-place-tables : goal.returns-then-place-tables
returns-then-place-tables c = λ t.
    key_at c.args.key.now c.args.tables.now c.args.place c.index-tables-place.result (omega arith) c.index-tables-place.is
    (ap (λ (u : Table). u.key) c.index-tables-place.is ∙ key_same _ _ (sym c.key_order.ensures ∙ (Equal-is _).0 (sym c.is_eq.ensures ∙ t)))
