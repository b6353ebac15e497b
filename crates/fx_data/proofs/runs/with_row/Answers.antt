use Rattle.std.proofs.Common.{◌≡◌, [], ◌∷◌, ◌++◌, sym, ◌∙◌}
use Rattle.std.proofs.lemmas.List.{append-nil}
use Rattle.std.proofs.lemmas.Result.{IfOk-weaker}
use Rattle.std.specs.List.{AllByRecursion}
use Rattle.fx_data.specs.Gathered.{grouped}
use Rattle.fx_data.specs.declared.keyed_row.KeyedRow.{KeyedRow}
use Rattle.fx_data.specs.Regrouped.{alone, joined}
use Rattle.fx_data.specs.Table.{IsLawfulTable}
use Rattle.fx_data.proofs.Regrouped.{run_goes_on, run_stays_lawful, run_begins, run_begins_lawful}
use Rattle.fx_data.proofs.runs.with_row.Goals as goal

pub returns-then-is_new_key-clause-groups : goal.returns-then-is_new_key-clause-groups
returns-then-is_new_key-clause-groups c =
    let r : KeyedRow = record { key = c.args.key.now; row = c.args.row } in
    let old = c.args.tables.items in
    let front = c.pop.new.self.items in
    let longer = c.in_ok-longer-in-Some.field-0 in
    IfOk-weaker c.with_table-then-is_new_key.result (λ ts. ts.items ≡ front ++ longer ∷ []) (λ ts. grouped ts.items ≡ joined (grouped old) (alone r))
    (λ ts is. run_goes_on old ts.items front c.in-Some.last longer r c.in-Some.ensures.items (c.is_new_key.ensures c.if-is_new_key.true) c.in_ok-longer-in-Some.ensures is)
    c.with_table-then-is_new_key.ensures

pub returns-then-is_new_key-clause-lawful : goal.returns-then-is_new_key-clause-lawful
returns-then-is_new_key-clause-lawful c = λ lawful.
    let r : KeyedRow = record { key = c.args.key.now; row = c.args.row } in
    let old = c.args.tables.items in
    let front = c.pop.new.self.items in
    let longer = c.in_ok-longer-in-Some.field-0 in
    IfOk-weaker c.with_table-then-is_new_key.result (λ ts. ts.items ≡ front ++ longer ∷ []) (λ ts. AllByRecursion IsLawfulTable ts.items)
    (λ ts is. run_stays_lawful old ts.items front c.in-Some.last longer r c.in-Some.ensures.items (c.is_new_key.ensures c.if-is_new_key.true) c.in_ok-longer-in-Some.ensures is c.requires lawful)
    c.with_table-then-is_new_key.ensures

pub returns-in_ok-lone-in-None-clause-groups : goal.returns-in_ok-lone-in-None-clause-groups
returns-in_ok-lone-in-None-clause-groups c =
    let r : KeyedRow = record { key = c.args.key.now; row = c.args.row } in
    let old = c.args.tables.items in
    let front = c.pop.new.self.items in
    let lone = c.in_ok-lone-in-None.field-0 in
    IfOk-weaker c.with_table.result (λ ts. ts.items ≡ front ++ lone ∷ []) (λ ts. grouped ts.items ≡ joined (grouped old) (alone r))
    (λ ts is. run_begins old ts.items front lone r (sym (append-nil front) ∙ sym c.in-None.ensures.items) c.in_ok-lone-in-None.ensures is)
    c.with_table.ensures

pub returns-in_ok-lone-in-None-clause-lawful : goal.returns-in_ok-lone-in-None-clause-lawful
returns-in_ok-lone-in-None-clause-lawful c = λ lawful.
    let r : KeyedRow = record { key = c.args.key.now; row = c.args.row } in
    let old = c.args.tables.items in
    let front = c.pop.new.self.items in
    let lone = c.in_ok-lone-in-None.field-0 in
    IfOk-weaker c.with_table.result (λ ts. ts.items ≡ front ++ lone ∷ []) (λ ts. AllByRecursion IsLawfulTable ts.items)
    (λ ts is. run_begins_lawful old ts.items front lone r (sym (append-nil front) ∙ sym c.in-None.ensures.items) c.in_ok-lone-in-None.ensures is c.requires lawful)
    c.with_table.ensures

pub returns-in_ok-lone-in-Some-clause-groups : goal.returns-in_ok-lone-in-Some-clause-groups
returns-in_ok-lone-in-Some-clause-groups c =
    let r : KeyedRow = record { key = c.args.key.now; row = c.args.row } in
    let old = c.args.tables.items in
    let front = c.in_ok-tables-in-Some.tables.items in
    let lone = c.in_ok-lone-in-Some.field-0 in
    IfOk-weaker c.with_table-in-Some-2.result (λ ts. ts.items ≡ front ++ lone ∷ []) (λ ts. grouped ts.items ≡ joined (grouped old) (alone r))
    (λ ts is. run_begins old ts.items front lone r (c.in_ok-tables-in-Some.ensures ∙ sym c.in-Some.ensures.items) c.in_ok-lone-in-Some.ensures is)
    c.with_table-in-Some-2.ensures

pub returns-in_ok-lone-in-Some-clause-lawful : goal.returns-in_ok-lone-in-Some-clause-lawful
returns-in_ok-lone-in-Some-clause-lawful c = λ lawful.
    let r : KeyedRow = record { key = c.args.key.now; row = c.args.row } in
    let old = c.args.tables.items in
    let front = c.in_ok-tables-in-Some.tables.items in
    let lone = c.in_ok-lone-in-Some.field-0 in
    IfOk-weaker c.with_table-in-Some-2.result (λ ts. ts.items ≡ front ++ lone ∷ []) (λ ts. AllByRecursion IsLawfulTable ts.items)
    (λ ts is. run_begins_lawful old ts.items front lone r (c.in_ok-tables-in-Some.ensures ∙ sym c.in-Some.ensures.items) c.in_ok-lone-in-Some.ensures is c.requires lawful)
    c.with_table-in-Some-2.ensures
