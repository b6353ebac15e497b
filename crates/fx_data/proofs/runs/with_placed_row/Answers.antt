use Rattle.std.proofs.Common.{List, [], ◌∷◌, sym, ap, subst, ◌∙◌, arith}
use Rattle.std.specs.List.{AllByRecursion}
use Rattle.fx_data.specs.Ascending.{Rise}
use Rattle.fx_data.specs.Gathered.{grouped}
use Rattle.fx_data.specs.Placed.{KeyAt}
use Rattle.fx_data.specs.Regrouped.{new_key}
use Rattle.fx_data.specs.Table.{IsLawfulTable}
use Rattle.fx_data.specs.declared.table.Table.{Table}
use Rattle.fx_data.proofs.Placed.{joined_at, rise_at, lawful_at, at_within}
use Rattle.fx_data.proofs.Regrouped.{alone_lawful}
use Rattle.fx_data.proofs.runs.with_placed_row.Goals as goal

pub push_row_at-requires : goal.push_row_at-requires
push_row_at-requires c =
    let key = new_key c.args.key.now c.args.row in
    let at = subst (λ (ts : List Table). KeyAt key ts c.in-Some.place) c.as_slice.ensures.value c.in-Some.ensures in
    let below = at_within key c.args.tables.items c.in-Some.place at in
    omega (arith, below)

pub invariant_of-result : goal.invariant_of-result
invariant_of-result c =
    let key = new_key c.args.key.now c.args.row in
    let at = subst (λ (ts : List Table). KeyAt key ts c.in-Some.place) c.as_slice.ensures.value c.in-Some.ensures in
    subst (λ (ts : List Table). AllByRecursion IsLawfulTable ts × Rise ts) (sym c.in_ok-push_row_at-in-Some.ensures) (
      lawful_at key (c.args.row ∷ []) c.args.tables.items c.in-Some.place at (alone_lawful c.args.key.now c.args.row c.requires.labels).columns c.requires.lawful,
      rise_at key (c.args.row ∷ []) c.args.tables.items c.in-Some.place c.requires.rising,
    )

pub with_placed_table-requires-clause-lawful : goal.with_placed_table-requires-clause-lawful
with_placed_table-requires-clause-lawful c =
    subst IsLawfulTable (sym c.in_ok-lone-in-None.ensures) (alone_lawful c.args.key.now c.args.row c.requires.labels)

pub returns-in_ok-push_row_at-in-Some : goal.returns-in_ok-push_row_at-in-Some
returns-in_ok-push_row_at-in-Some c =
    let key = new_key c.args.key.now c.args.row in
    let at = subst (λ (ts : List Table). KeyAt key ts c.in-Some.place) c.as_slice.ensures.value c.in-Some.ensures in
    ap grouped c.in_ok-push_row_at-in-Some.ensures ∙ joined_at key (c.args.row ∷ []) c.args.tables.items c.in-Some.place c.requires.rising at
