use Rattle.std.proofs.Common.{◌≡◌, List, sym, ap, subst, ◌∙◌, rules}
use Rattle.std.specs.Prelude.{IfOk}
use Rattle.fx_data.specs.Regrouped.{joined}
use Rattle.fx_data.specs.Table.{IsLawfulTable}
use Rattle.fx_data.specs.declared.table.Table.{Table}
use Rattle.fx_group.specs.Answer.{Row}
use Rattle.fx_group.specs.Range.{bounded}
use Rattle.fx_group.proofs.Ranged.{bounded_lawful}
use Rattle.fx_window.specs.Clip.{raised, lowered}
use Rattle.fx_window.proofs.windowing.push_window.Goals as goal

pub push_table-requires : goal.push_table-requires
push_table-requires c =
    let low = c.clipped-start.result.0 in
    let high = c.clipped-start.result.1 in
    let table : c.in_ok-table.table ≡ bounded low high (record { key = c.args.key.now; rows = c.in_ok-rows.rows }) = search rules in
    subst IsLawfulTable (sym table)
    (bounded_lawful low high (record { key = c.args.key.now; rows = c.in_ok-rows.rows })
    (subst (λ (rows : List Row). IsLawfulTable (record { key = c.args.key.now; rows = rows })) (sym c.in_ok-rows.ensures) c.requires.lawful))

pub returns : goal.returns
returns c =
    let low = c.clipped-start.result.0 in
    let high = c.clipped-start.result.1 in
    let table : c.in_ok-table.table ≡ bounded low high (record { key = c.args.key.now; rows = c.in_ok-rows.rows }) = search rules in
    let start : low ≡ raised c.args.frame.now.every c.args.reach.low c.args.k = search rules in
    let stop : high ≡ lowered c.args.frame.now.every c.args.frame.now.period c.args.reach.high c.args.k = search rules in
    subst (λ (t : Table). IfOk c.push_table.result (λ r. r ≡ joined c.args.runs t))
    (table ∙ ap (λ (rows : List Row). bounded low high (record { key = c.args.key.now; rows = rows })) c.in_ok-rows.ensures
    ∙ (λ i. bounded (start i) (stop i) (record { key = c.args.key.now; rows = c.args.rows.now })))
    c.push_table.ensures
