use Rattle.std.proofs.Common.{◌≡◌, true, false, [], ◌∷◌, ◌++◌, sym, ap, ◌∙◌, rules}
use Rattle.std.proofs.lemmas.List.{append-nil}
use Rattle.std.proofs.lemmas.Result.{IfOk-weaker}
use Rattle.std.specs.Ordering.{is_eq}
use Rattle.std.specs.Cmp.{Equal-is}
use Rattle.fx_pivot.specs.Cells.{values_cmp}
use Rattle.fx_pivot.specs.Ordered.{LastIs, with_cell, lines_of}
use Rattle.fx_pivot.specs.declared.placing.Line.{Line}
use Rattle.fx_pivot.proofs.Orders.{values_same}
use Rattle.fx_pivot.proofs.Places.{same_line, next_line, first_line, last_pushed}
use Rattle.fx_pivot.proofs.placing.with_next.Goals as goal

pub returns-in_ok-begun-in-None-clause-lines : goal.returns-in_ok-begun-in-None-clause-lines
returns-in_ok-begun-in-None-clause-lines c = λ places all.
    let cell = c.args.cell in
    let front = c.pop.new.self.items in
    let nothing : c.args.lines.items ≡ [] = search rules in
    let none : front ≡ [] = sym (append-nil front) ∙ sym c.in-None.ensures.items ∙ nothing in
    let x = c.in_ok-begun-in-None.field-0 in
    IfOk-weaker c.push_line.result (λ v. v.items ≡ front ++ x ∷ []) (λ v. v.items ≡ lines_of c.args.labels.now (with_cell places cell))
    (λ v is. is ∙ (λ i. none i ++ c.in_ok-begun-in-None.ensures i ∷ []) ∙ first_line c.args.labels.now places cell (sym nothing ∙ all))
    c.push_line.ensures

pub returns-in_ok-begun-in-None-clause-last : goal.returns-in_ok-begun-in-None-clause-last
returns-in_ok-begun-in-None-clause-last c =
    let x = c.in_ok-begun-in-None.field-0 in
    IfOk-weaker c.push_line.result (λ v. v.items ≡ c.pop.new.self.items ++ x ∷ []) (λ v. LastIs c.args.cell.place v.items)
    (λ v is. last_pushed c.pop.new.self.items v.items x c.args.cell.place is (ap (λ (y : Line). y.place) c.in_ok-begun-in-None.ensures))
    c.push_line.ensures

pub returns-then-is_at-clause-lines : goal.returns-then-is_at-clause-lines
returns-then-is_at-clause-lines c = λ places all.
    let cell = c.args.cell in
    let last = c.in-Some.last in
    let front = c.pop.new.self.items in
    let longer = c.in_ok-longer-in-Some.longer in
    let tied : is_eq (values_cmp last.place cell.place) ≡ true = search rules in
    IfOk-weaker c.push_line-then-is_at.result (λ v. v.items ≡ front ++ longer ∷ []) (λ v. v.items ≡ lines_of c.args.labels.now (with_cell places cell))
    (λ v is. is ∙ ap (λ (x : Line). front ++ x ∷ []) c.in_ok-longer-in-Some.ensures
    ∙ same_line c.args.labels.now places cell c.args.lines.items front last all c.in-Some.ensures.items tied)
    c.push_line-then-is_at.ensures

pub returns-then-is_at-clause-last : goal.returns-then-is_at-clause-last
returns-then-is_at-clause-last c =
    let cell = c.args.cell in
    let last = c.in-Some.last in
    let longer = c.in_ok-longer-in-Some.longer in
    let tied : is_eq (values_cmp last.place cell.place) ≡ true = search rules in
    IfOk-weaker c.push_line-then-is_at.result (λ v. v.items ≡ c.pop.new.self.items ++ longer ∷ []) (λ v. LastIs cell.place v.items)
    (λ v is. last_pushed c.pop.new.self.items v.items longer cell.place is
    (ap (λ (y : Line). y.place) c.in_ok-longer-in-Some.ensures ∙ values_same last.place cell.place ((Equal-is _).0 tied)))
    c.push_line-then-is_at.ensures

pub returns-in_ok-begun-in-Some-clause-lines : goal.returns-in_ok-begun-in-Some-clause-lines
returns-in_ok-begun-in-Some-clause-lines c = λ places all.
    let cell = c.args.cell in
    let last = c.in-Some.last in
    let middle = c.in_ok-lines-in-Some.lines.items in
    let x = c.in_ok-begun-in-Some.field-0 in
    let apart : is_eq (values_cmp last.place cell.place) ≡ false = search rules in
    let again : middle ≡ c.args.lines.items = c.in_ok-lines-in-Some.ensures ∙ sym c.in-Some.ensures.items in
    IfOk-weaker c.push_line-in-Some-2.result (λ v. v.items ≡ middle ++ x ∷ []) (λ v. v.items ≡ lines_of c.args.labels.now (with_cell places cell))
    (λ v is. is ∙ (λ i. again i ++ c.in_ok-begun-in-Some.ensures i ∷ [])
    ∙ next_line c.args.labels.now places cell c.args.lines.items c.pop.new.self.items last all c.in-Some.ensures.items apart (c.requires c.pop.new.self.items last c.in-Some.ensures.items))
    c.push_line-in-Some-2.ensures

pub returns-in_ok-begun-in-Some-clause-last : goal.returns-in_ok-begun-in-Some-clause-last
returns-in_ok-begun-in-Some-clause-last c =
    let x = c.in_ok-begun-in-Some.field-0 in
    let middle = c.in_ok-lines-in-Some.lines.items in
    IfOk-weaker c.push_line-in-Some-2.result (λ v. v.items ≡ middle ++ x ∷ []) (λ v. LastIs c.args.cell.place v.items)
    (λ v is. last_pushed middle v.items x c.args.cell.place is (ap (λ (y : Line). y.place) c.in_ok-begun-in-Some.ensures))
    c.push_line-in-Some-2.ensures
