use Rattle.std.proofs.Common.{◌≡◌, ◌-◌, length, sym, ap, ◌∙◌, arith}
use Rattle.fx_data.specs.Key.{key_cmp}
use Rattle.fx_data.specs.declared.table.Table.{Table}
use Rattle.fx_data.proofs.Placed.{belongs_last, less_is}
use Rattle.fx_data.proofs.runs.is_above.Goals as goal

pub returns-then-count-gt0 : goal.returns-then-count-gt0
returns-then-count-gt0 c = λ t.
    belongs_last c.args.key.now c.args.tables.now (length c.args.tables.now - 1) c.index-tables-count.result c.requires (omega (arith, c.if-count-gt0.true)) c.index-tables-count.is
    (ap (λ (u : Table). key_cmp u.key c.args.key.now) c.index-tables-count.is ∙ sym c.key_order.ensures ∙ less_is c.key_order.result (sym c.is_lt.ensures ∙ t))
