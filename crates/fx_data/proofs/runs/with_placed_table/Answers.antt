use Rattle.std.proofs.Common.{List, sym, ap, subst, ◌∙◌, arith}
use Rattle.std.specs.List.{AllByRecursion}
use Rattle.fx_data.specs.Ascending.{Rise}
use Rattle.fx_data.specs.Gathered.{grouped}
use Rattle.fx_data.specs.Placed.{KeyAt}
use Rattle.fx_data.specs.Table.{IsLawfulTable}
use Rattle.fx_data.specs.declared.table.Table.{Table}
use Rattle.fx_data.proofs.Placed.{joined_at, rise_at, lawful_at, at_within}
use Rattle.fx_data.proofs.runs.with_placed_table.Goals as goal

pub push_rows_at-requires : goal.push_rows_at-requires
push_rows_at-requires c =
    let at = subst (λ (ts : List Table). KeyAt c.args.table.key ts c.in-Ok.place) c.as_slice.ensures.value c.in-Ok.ensures.found in
    let below = at_within c.args.table.key c.args.tables.items c.in-Ok.place at in
    omega (arith, below)

pub invariant_of-result : goal.invariant_of-result
invariant_of-result c =
    let at = subst (λ (ts : List Table). KeyAt c.args.table.key ts c.in-Ok.place) c.as_slice.ensures.value c.in-Ok.ensures.found in
    subst (λ (ts : List Table). AllByRecursion IsLawfulTable ts × Rise ts) (sym c.in_ok-push_rows_at-in-Ok.ensures) (
      lawful_at c.args.table.key c.args.table.rows c.args.tables.items c.in-Ok.place at c.requires.lawful.columns c.requires.each,
      rise_at c.args.table.key c.args.table.rows c.args.tables.items c.in-Ok.place c.requires.rising,
    )

pub returns-in_ok-push_rows_at-in-Ok : goal.returns-in_ok-push_rows_at-in-Ok
returns-in_ok-push_rows_at-in-Ok c =
    let at = subst (λ (ts : List Table). KeyAt c.args.table.key ts c.in-Ok.place) c.as_slice.ensures.value c.in-Ok.ensures.found in
    ap grouped c.in_ok-push_rows_at-in-Ok.ensures ∙ joined_at c.args.table.key c.args.table.rows c.args.tables.items c.in-Ok.place c.requires.rising at
