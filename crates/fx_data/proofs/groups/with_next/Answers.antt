use Rattle.std.proofs.Common.{◌≡◌, true, false, [], ◌∷◌, ◌++◌, sym, ◌∙◌, rules}
use Rattle.std.proofs.lemmas.List.{append-nil}
use Rattle.std.proofs.lemmas.Result.{IfOk-weaker}
use Rattle.std.specs.Ordering.{is_eq}
use Rattle.std.specs.List.{AllByRecursion}
use Rattle.fx_data.specs.Ascending.{Rise, LastHas}
use Rattle.fx_data.specs.Gathered.{grouped}
use Rattle.fx_data.specs.Key.{key_cmp}
use Rattle.fx_data.specs.Regrouped.{joined}
use Rattle.fx_data.specs.Table.{IsLawfulTable}
use Rattle.fx_data.proofs.Merged.{neighbour_joins, neighbour_is_last, neighbour_is_lawful, next_joins, next_rises, first_joins, first_rises}
use Rattle.fx_data.proofs.groups.with_next.Goals as goal

pub returns-then-is_eq-clause-groups : goal.returns-then-is_eq-clause-groups
returns-then-is_eq-clause-groups c =
    let last = c.in-Some.last in
    let rows = c.in_ok-rows-in-Some.rows in
    let front = c.pop.new.self.items in
    let same : is_eq (key_cmp last.key c.args.table.key) ≡ true = search rules in
    IfOk-weaker c.with_table-then-is_eq.result (λ v. v.items ≡ front ++ record { key = last.key; rows = rows } ∷ []) (λ v. grouped v.items ≡ joined (grouped c.args.tables.items) c.args.table)
    (λ v is. neighbour_joins c.args.tables.items v.items front last c.args.table c.in-Some.ensures.items rows same c.in_ok-rows-in-Some.ensures is)
    c.with_table-then-is_eq.ensures

pub returns-then-is_eq-clause-last : goal.returns-then-is_eq-clause-last
returns-then-is_eq-clause-last c =
    let last = c.in-Some.last in
    let rows = c.in_ok-rows-in-Some.rows in
    let front = c.pop.new.self.items in
    let same : is_eq (key_cmp last.key c.args.table.key) ≡ true = search rules in
    IfOk-weaker c.with_table-then-is_eq.result (λ v. v.items ≡ front ++ record { key = last.key; rows = rows } ∷ []) (λ v. LastHas c.args.table.key v.items)
    (λ v is. neighbour_is_last c.args.tables.items v.items front last c.args.table c.in-Some.ensures.items rows same c.in_ok-rows-in-Some.ensures is)
    c.with_table-then-is_eq.ensures

pub returns-then-is_eq-clause-lawful : goal.returns-then-is_eq-clause-lawful
returns-then-is_eq-clause-lawful c = λ each lawful.
    let last = c.in-Some.last in
    let rows = c.in_ok-rows-in-Some.rows in
    let front = c.pop.new.self.items in
    let same : is_eq (key_cmp last.key c.args.table.key) ≡ true = search rules in
    IfOk-weaker c.with_table-then-is_eq.result (λ v. v.items ≡ front ++ record { key = last.key; rows = rows } ∷ []) (λ v. AllByRecursion IsLawfulTable v.items)
    (λ v is. neighbour_is_lawful c.args.tables.items v.items front last c.args.table c.in-Some.ensures.items rows same c.in_ok-rows-in-Some.ensures is each lawful)
    c.with_table-then-is_eq.ensures

pub returns-in-None-clause-groups : goal.returns-in-None-clause-groups
returns-in-None-clause-groups c =
    let front = c.pop.new.self.items in
    IfOk-weaker c.with_table.result (λ v. v.items ≡ front ++ c.args.table ∷ []) (λ v. grouped v.items ≡ joined (grouped c.args.tables.items) c.args.table)
    (λ v is. first_joins c.args.tables.items v.items front c.args.table (sym (append-nil front) ∙ sym c.in-None.ensures.items) is)
    c.with_table.ensures

pub returns-in-None-clause-rising : goal.returns-in-None-clause-rising
returns-in-None-clause-rising c = λ rise.
    let front = c.pop.new.self.items in
    let none : c.args.tables.items ≡ [] = search rules in
    IfOk-weaker c.with_table.result (λ v. v.items ≡ front ++ c.args.table ∷ []) (λ v. Rise v.items)
    (λ v is. first_rises c.args.tables.items v.items front c.args.table (sym (append-nil front) ∙ sym c.in-None.ensures.items) is none)
    c.with_table.ensures

pub returns-in_ok-tables-in-Some-clause-groups : goal.returns-in_ok-tables-in-Some-clause-groups
returns-in_ok-tables-in-Some-clause-groups c =
    let middle = c.in_ok-tables-in-Some.tables.items in
    let apart : is_eq (key_cmp c.in-Some.last.key c.args.table.key) ≡ false = search rules in
    IfOk-weaker c.with_table-in-Some-2.result (λ v. v.items ≡ middle ++ c.args.table ∷ []) (λ v. grouped v.items ≡ joined (grouped c.args.tables.items) c.args.table)
    (λ v is. next_joins c.args.tables.items v.items c.pop.new.self.items c.in-Some.last c.args.table c.in-Some.ensures.items middle c.in_ok-tables-in-Some.ensures apart
    (c.requires c.pop.new.self.items c.in-Some.last c.in-Some.ensures.items) is)
    c.with_table-in-Some-2.ensures

pub returns-in_ok-tables-in-Some-clause-rising : goal.returns-in_ok-tables-in-Some-clause-rising
returns-in_ok-tables-in-Some-clause-rising c = λ rise.
    let middle = c.in_ok-tables-in-Some.tables.items in
    let apart : is_eq (key_cmp c.in-Some.last.key c.args.table.key) ≡ false = search rules in
    IfOk-weaker c.with_table-in-Some-2.result (λ v. v.items ≡ middle ++ c.args.table ∷ []) (λ v. Rise v.items)
    (λ v is. next_rises c.args.tables.items v.items c.pop.new.self.items c.in-Some.last c.args.table c.in-Some.ensures.items middle c.in_ok-tables-in-Some.ensures apart
    (c.requires c.pop.new.self.items c.in-Some.last c.in-Some.ensures.items) is rise)
    c.with_table-in-Some-2.ensures
