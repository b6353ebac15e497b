use Rattle.std.proofs.Common.{◌≡◌, ℕ, List, [], ◌∷◌, ◌++◌, sym, subst, ◌∙◌, rules}
use Rattle.std.proofs.lemmas.List.{map-append}
use Rattle.std.specs.List.{AllByRecursion}
use Rattle.fx_data.specs.Table.{IsLawfulTable}
use Rattle.fx_data.proofs.Lawful.{all-append}
use Rattle.fx_pivot.specs.Pivot.{based}
use Rattle.fx_pivot.proofs.Pivoted.{based_lawful}
use Rattle.fx_pivot.proofs.pivoting.collected.Goals as goal

pub loop-table-preserved : goal.loop-table-preserved
loop-table-preserved c =
    let taken : List (List ℕ) = c.args.value.now ∷ c.args.columns.now in
    let t = c.in-Some.table in
    let made = c.in_ok-based.field-0 in
    let before : AllByRecursion IsLawfulTable (t ∷ c.next.new.self.rest.items) = subst (AllByRecursion IsLawfulTable) c.in-Some.ensures.steps.0 c.loop-table.invariant.left in
    let pushed : c.push.new.self.items ≡ c.loop-table.all.items ++ made ∷ [] = search rules in
    record {
      tables = pushed ∙ (λ i. c.loop-table.invariant.tables i ++ c.in_ok-based.ensures i ∷ []) ∙ sym (map-append (based taken) c.loop-table.yielded (t ∷ []));
      made = subst (AllByRecursion IsLawfulTable) (sym pushed)
          (all-append IsLawfulTable c.loop-table.all.items (made ∷ []) c.loop-table.invariant.made (subst IsLawfulTable (sym c.in_ok-based.ensures) (based_lawful taken t before.0), tt));
      left = before.1;
    }
