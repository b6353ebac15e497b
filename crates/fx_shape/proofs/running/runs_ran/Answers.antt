use Rattle.std.proofs.Common.{◌≡◌, ◌∷◌, List, sym, ap, subst, ◌∙◌, rules}
use Rattle.std.specs.FinMap as fin
use Rattle.std.specs.List.{AllByRecursion}
use Rattle.std.specs.Prelude.{Err}
use Rattle.fx_data.specs.Table.{IsLawfulTable}
use Rattle.fx_data.specs.declared.table.Table.{Table}
use Rattle.fx_group.specs.Answer.{Row}
use Rattle.fx_group.specs.Turned.{with_rows}
use Rattle.fx_group.proofs.Turned.{with_both}
use Rattle.fx_value.specs.Calls.{Told}
use Rattle.fx_value.specs.Works.{flat_each, into}
use Rattle.fx_shape.specs.Outcome.{come_to, made_of, number_of}
use Rattle.fx_shape.specs.Running.{ran_table}
use Rattle.fx_shape.proofs.Gathers.{into_unstuck, item_unstuck, state_gives, state_stops}
use Rattle.fx_shape.proofs.running.runs_ran.Goals as goal

pub loop-table-init : goal.loop-table-init
loop-table-init c =
    let step = ran_table (come_to c.args.which) (λ (row : Row). number_of c.args.which (fin.get row c.args.read.now)) (made_of c.args.which c.args.place c.args.column.now) in
    let left = c.into_iter-table-iterator.result.rest.items in
    let all : left ≡ c.args.tables = c.into_iter-table-iterator.ensures.into_iter_gives.0 ∙ c.into_vec-table-items.ensures ∙ c.into_list.ensures.value in
    record {
      same = sym (ap (λ groups. into with_rows groups (flat_each step left)) c.empty-runs.ensures ∙ ap (λ (ts : List Table). into with_rows fin.empty (flat_each step ts)) all);
      lawful = subst (AllByRecursion IsLawfulTable) (sym all) c.into_list.ensures.lawful.each;
    }

pub push_ran-requires-clause-lawful : goal.push_ran-requires-clause-lawful
push_ran-requires-clause-lawful c =
    let before : AllByRecursion IsLawfulTable (c.in-Some.table ∷ c.next.new.self.rest.items) = subst (AllByRecursion IsLawfulTable) c.in-Some.ensures.steps.0 c.loop-table.invariant.lawful in
    before.0

pub push_ran-requires-clause-unstuck : goal.push_ran-requires-clause-unstuck
push_ran-requires-clause-unstuck c =
    let step = ran_table (come_to c.args.which) (λ (row : Row). number_of c.args.which (fin.get row c.args.read.now)) (made_of c.args.which c.args.place c.args.column.now) in
    let made = flat_each step c.args.tables in
    item_unstuck with_rows step (into with_rows fin.empty made) c.loop-table.runs
    c.loop-table.table-iterator.rest.items c.loop-table.invariant.same c.in-Some.table c.next.new.self.rest.items c.in-Some.ensures.steps.0
    (into_unstuck with_rows fin.empty made c.requires.unstuck)

pub returns-in_err-runs : goal.returns-in_err-runs
returns-in_err-runs c =
    let step = ran_table (come_to c.args.which) (λ (row : Row). number_of c.args.which (fin.get row c.args.read.now)) (made_of c.args.which c.args.place c.args.column.now) in
    let whole = into with_rows fin.empty (flat_each step c.args.tables) in
    let why = c.in_err-runs.field-0.0 in
    let same : c.from_residual.result ≡ Err c.in_err-runs.field-0.0 = search rules in
    subst (Told whole) (sym same)
    (state_stops with_rows step whole c.loop-table.runs
    c.loop-table.table-iterator.rest.items c.loop-table.invariant.same c.in-Some.table c.next.new.self.rest.items c.in-Some.ensures.steps.0
    with_both why c.in_err-runs.ensures)

pub loop-table-preserved : goal.loop-table-preserved
loop-table-preserved c =
    let step = ran_table (come_to c.args.which) (λ (row : Row). number_of c.args.which (fin.get row c.args.read.now)) (made_of c.args.which c.args.place c.args.column.now) in
    let whole = into with_rows fin.empty (flat_each step c.args.tables) in
    let before : AllByRecursion IsLawfulTable (c.in-Some.table ∷ c.next.new.self.rest.items) = subst (AllByRecursion IsLawfulTable) c.in-Some.ensures.steps.0 c.loop-table.invariant.lawful in
    record {
      same = state_gives with_rows step whole c.loop-table.runs
          c.loop-table.table-iterator.rest.items c.loop-table.invariant.same c.in-Some.table c.next.new.self.rest.items c.in-Some.ensures.steps.0
          with_both c.in_ok-runs.runs c.in_ok-runs.ensures;
      lawful = before.1;
    }
