use Rattle.std.proofs.Common.{List, [], ◌∷◌, ◌++◌, map, sym, ap, ◌∙◌, append_assoc}
use Rattle.fx_data.specs.declared.key.Key.{Key}
use Rattle.fx_data.specs.declared.keyed_row.KeyedRow.{KeyedRow}
use Rattle.fx_group.specs.Answer.{Row}
use Rattle.fx_window.proofs.uncutting.push_keyed.Goals as goal

pub loop-row-init : goal.loop-row-init
loop-row-init c =
    let f : Row → KeyedRow = λ row. record { key = c.args.key.now; row = row } in
    ap (λ (rows : List Row). c.args.all.now.items ++ map f rows) (c.into_iter-row-iterator.ensures.into_iter_gives.0 ∙ c.into_vec-row-items.ensures)

pub loop-row-preserved : goal.loop-row-preserved
loop-row-preserved c =
    let f : Row → KeyedRow = λ row. record { key = c.args.key.now; row = row } in
    let old = c.loop-row.all.items in
    let row = c.in-Some.row in
    let left = c.next.new.self.rest.items in
    let new : KeyedRow = record { key = c.in_ok-copy.field-0; row = row } in
    ap (λ (xs : List KeyedRow). xs ++ map f left) c.in_ok-push.ensures.items ∙ append_assoc old (new ∷ []) (map f left)
    ∙ ap (λ (key : Key). old ++ record { key = key; row = row } ∷ map f left) c.in_ok-copy.ensures
    ∙ ap (λ (rows : List Row). old ++ map f rows) (sym c.in-Some.ensures.steps.0) ∙ c.loop-row.invariant
