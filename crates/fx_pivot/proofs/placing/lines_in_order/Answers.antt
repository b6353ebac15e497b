use Rattle.std.proofs.Common.{◌≡◌, List, [], ◌∷◌, sym, ap, subst, ◌∙◌, arith}
use Rattle.std.specs.FinMap as fin
use Rattle.fx_value.specs.declared.scalar.Scalar.{Scalar}
use Rattle.fx_pivot.specs.Ordered.{Places, NoneBelow, Ascend, with_cell, with_all, lines_of}
use Rattle.fx_pivot.specs.declared.cell.Cell.{Cell}
use Rattle.fx_pivot.proofs.Places.{all_placed, no_lines, no_last_line, nothing_left}
use Rattle.fx_pivot.proofs.placing.lines_in_order.Goals as goal

pub loop-cell-init : goal.loop-cell-init
loop-cell-init c =
    let left = c.into_iter-cell-iterator.result.rest.items in
    let all : left ≡ c.args.cells.items = c.into_iter-cell-iterator.ensures.into_iter_gives.0 in
    let none : c.new-lines.result.items ≡ [] = c.new-lines.ensures.items in
    record {
      places = (fin.empty, none ∙ sym (no_lines c.args.labels.now), ap (λ (cells : List Cell). with_all fin.empty cells) all ∙ all_placed c.args.cells.items);
      order = subst Ascend (sym all) c.requires;
      last = λ front x is. absurd (no_last_line front x (sym none ∙ is));
    }

pub with_next-requires : goal.with_next-requires
with_next-requires c = λ front last is.
    let below : NoneBelow last.place (c.in-Some.cell ∷ c.next.new.self.rest.items) = subst (NoneBelow last.place) c.in-Some.ensures.steps.0 (c.loop-cell.invariant.last front last is) in
    below.0

pub loop-cell-preserved : goal.loop-cell-preserved
loop-cell-preserved c =
    let m = c.loop-cell.invariant.places.0 in
    let cell = c.in-Some.cell in
    let left = c.next.new.self.rest.items in
    let order : Ascend (cell ∷ left) = subst Ascend c.in-Some.ensures.steps.0 c.loop-cell.invariant.order in
    record {
      places = (
        with_cell m cell,
        c.in_ok-lines.ensures.lines m c.loop-cell.invariant.places.1,
        ap (λ (cells : List Cell). with_all m cells) (sym c.in-Some.ensures.steps.0) ∙ c.loop-cell.invariant.places.2,
      );
      order = order.1;
      last = λ front x is. subst (λ (place : List Scalar). NoneBelow place left) (sym (c.in_ok-lines.ensures.last front x is)) order.0;
    }

pub returns : goal.returns
returns c =
    let m = c.loop-cell.invariant.places.0 in
    let none : c.loop-cell.cell-iterator.rest.items ≡ [] = nothing_left c.loop-cell.cell-iterator.rest.items (omega (arith, c.in-None.ensures.steps.0, c.loop-cell.cell-iterator.rest.ok.0)) in
    c.loop-cell.invariant.places.1
    ∙ ap (λ (p : Places). lines_of c.args.labels.now p) (sym (ap (λ (cells : List Cell). with_all m cells) none) ∙ c.loop-cell.invariant.places.2)
