use Rattle.std.proofs.Common.{◌≡◌, List, [], ◌∷◌, ◌++◌, FitsSigned, w64, sym, ap, subst, ◌∙◌, append_assoc, arith, rules}
use Rattle.std.proofs.lemmas.Int.{to_z-of_z}
use Rattle.std.proofs.lemmas.List.{append-nil, nil_from_length}
use Rattle.std.specs.List.{flat_map, AllByRecursion}
use Rattle.fx_data.specs.Table.{IsLawfulTable}
use Rattle.fx_data.specs.declared.keyed_row.KeyedRow.{KeyedRow}
use Rattle.fx_data.specs.declared.table.Table.{Table}
use Rattle.fx_window.specs.Plain.{uncut_all}
use Rattle.fx_window.proofs.uncutting.rows_of.Goals as goal

pub loop-window-init : goal.loop-window-init
loop-window-init c =
    let each = uncut_all c.args.start c.args.stop in
    let left = c.into_iter-window-iterator.result.rest.items in
    let all : left ≡ c.args.windows = c.into_iter-window-iterator.ensures.into_iter_gives.0 ∙ c.into_vec-window-items.ensures ∙ c.into_list.ensures.value in
    let start : FitsSigned w64 c.args.start = c.ranges.start in
    let stop : FitsSigned w64 c.args.stop = c.ranges.stop in
    record {
      same = simp to_z-of_z (ap (λ (rows : List KeyedRow). rows ++ flat_map each left) c.new-rows.ensures.items ∙ ap (λ (ts : List Table). flat_map each ts) all);
      lawful = subst (AllByRecursion IsLawfulTable) (sym all) c.into_list.ensures.lawful.each;
    }

pub loop-window-preserved : goal.loop-window-preserved
loop-window-preserved c =
    let each = uncut_all c.args.start c.args.stop in
    let t = c.in-Some.window in
    let left = c.next.new.self.rest.items in
    let old = c.loop-window.rows.items in
    let before : AllByRecursion IsLawfulTable (t ∷ left) = subst (AllByRecursion IsLawfulTable) c.in-Some.ensures.steps.0 c.loop-window.invariant.lawful in
    let start : FitsSigned w64 c.args.start = c.ranges.start in
    let stop : FitsSigned w64 c.args.stop = c.ranges.stop in
    let known = simp to_z-of_z at c.loop-window.invariant.same in
    let made : c.push_uncut.new.all.items ≡ old ++ each t = search rules in
    record {
      same = simp to_z-of_z (ap (λ (rows : List KeyedRow). rows ++ flat_map each left) made ∙ append_assoc old (each t) (flat_map each left)
          ∙ ap (λ (ts : List Table). old ++ flat_map each ts) (sym c.in-Some.ensures.steps.0) ∙ known);
      lawful = before.1;
    }

pub returns-clause-rows : goal.returns-clause-rows
returns-clause-rows c =
    let each = uncut_all c.args.start c.args.stop in
    let start : FitsSigned w64 c.args.start = c.ranges.start in
    let stop : FitsSigned w64 c.args.stop = c.ranges.stop in
    let known = simp to_z-of_z at c.loop-window.invariant.same in
    let none : c.loop-window.window-iterator.rest.items ≡ [] = nil_from_length c.loop-window.window-iterator.rest.items (omega (arith, c.loop-window.window-iterator.rest.ok.0, c.in-None.ensures.steps.0)) in
    c.of.ensures ∙ sym (append-nil c.loop-window.rows.items) ∙ ap (λ (ts : List Table). c.loop-window.rows.items ++ flat_map each ts) (sym none) ∙ known
