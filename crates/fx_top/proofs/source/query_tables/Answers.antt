use Rattle.std.proofs.Common.{◌≡◌, ◌<◌, ◌∷◌, [], ◌++◌, ◌∙◌, ap, sym, subst, filter, length, get_or}
use Rattle.std.specs.Prelude.{IfOk}
use Rattle.std.specs.List.{AllByRecursion}
use Rattle.fx_value.specs.declared.scalar.Kind.TheVariants as kind
use Rattle.fx_data.specs.Table.{IsLawfulTable}
use Rattle.fx_data.specs.Gathered.{gathered}
use Rattle.fx_series.specs.Read.{is_in}
use Rattle.fx_top.specs.Run.{has_rows}
use Rattle.fx_top.proofs.SourceLemmas.{get_or-other, tables_more, tables_found, tables_lawful}
use Rattle.fx_top.proofs.source.query_tables.Goals as goal

pub collect-requires : goal.collect-requires
collect-requires g c =
    let wanted = filter (is_in c.args.query.now.bucket kind.Int) c.args.store.now.series in
    let tables = tables_found c.args.query.now c.args.store.now.series wanted c.as_slice-number-items.result.now c.in_ok-numbers.numbers c.loop-number.number-index c.loop-number.tables c.loop-number.invariant c.loop-number-test.false c.as_slice-number-items.ensures c.in_ok-numbers.ensures.found in
    subst (λ ts. AllByRecursion IsLawfulTable ts) (sym tables) (tables_lawful c.args.query.now wanted)

pub loop-number-preserved : goal.loop-number-preserved
loop-number-preserved g c =
    let items = c.as_slice-number-items.result.now in
    let i = c.loop-number.number-index in
    let within = subst (λ ns. get_or ns i 0 < length c.args.store.now.series) (sym c.as_slice-number-items.ensures) (c.in_ok-numbers.ensures.within i 0 (subst (λ ns. i < length ns) c.as_slice-number-items.ensures c.loop-number-test.true)) in
    c.in_ok-push_with_rows.ensures ∙ ap (λ ts. ts ++ filter has_rows (c.in_ok-table.table ∷ [])) c.loop-number.invariant
    ∙ tables_more c.args.query.now c.args.store.now.series items i (get_or items i 0) c.in_ok-table.table c.loop-number-test.true (get_or-other items i 0 (get_or items i 0) c.loop-number-test.true) within c.in_ok-table.ensures

pub returns : goal.returns
returns g c =
    let wanted = filter (is_in c.args.query.now.bucket kind.Int) c.args.store.now.series in
    let tables = tables_found c.args.query.now c.args.store.now.series wanted c.as_slice-number-items.result.now c.in_ok-numbers.numbers c.loop-number.number-index c.loop-number.tables c.loop-number.invariant c.loop-number-test.false c.as_slice-number-items.ensures c.in_ok-numbers.ensures.found in
    subst (λ ts. IfOk c.collect.result (λ t. t ≡ gathered ts)) tables c.collect.ensures
