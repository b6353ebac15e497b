use Rattle.std.proofs.Common.{List, sym, ap, subst, ◌∙◌, arith}
use Rattle.std.specs.List.{AllByRecursion}
use Rattle.fx_data.specs.Ascending.{Rise}
use Rattle.fx_data.specs.Gathered.{grouped}
use Rattle.fx_data.specs.Table.{IsLawfulTable}
use Rattle.fx_data.specs.declared.table.Table.{Table}
use Rattle.fx_data.proofs.Placed.{belongs_within, joined_in, rise_in, lawful_in}
use Rattle.fx_data.proofs.Regrouped.{pushed}
use Rattle.fx_data.proofs.runs.with_new_table.Goals as goal

pub overflow_sub-len : goal.overflow_sub-len
overflow_sub-len c =
    let within = belongs_within c.args.table.key c.args.tables.items c.args.place c.requires.place in
    omega (arith, within)

pub insert-requires : goal.insert-requires
insert-requires c =
    let within = belongs_within c.args.table.key c.args.tables.items c.args.place c.requires.place in
    omega (arith, within)

pub returns-then-len-place-gt-SHIFTED : goal.returns-then-len-place-gt-SHIFTED
returns-then-len-place-gt-SHIFTED c = pushed c.args.tables.items c.in_ok-tables.tables.items c.args.table c.in_ok-tables.ensures

pub invariant_of-result-2 : goal.invariant_of-result-2
invariant_of-result-2 c =
    subst (λ (ts : List Table). AllByRecursion IsLawfulTable ts × Rise ts) (sym c.in_ok-insert.ensures.items) (
      lawful_in c.args.table c.args.tables.items c.args.place c.requires.place c.requires.lawful c.requires.each,
      rise_in c.args.table c.args.tables.items c.args.place c.requires.place c.requires.rising,
    )

pub returns : goal.returns
returns c = ap grouped c.in_ok-insert.ensures.items ∙ joined_in c.args.table c.args.tables.items c.args.place c.requires.place
