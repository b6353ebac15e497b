use Rattle.std.proofs.Common.{◌≡◌, ◌+◌, ℕ, List, [], ◌∷◌, ◌++◌, map, drop, sym, ap, ◌∙◌, Bor, arith, append_assoc, rules}
use Rattle.std.proofs.lemmas.List.{drop_more, map-append}
use Rattle.std.specs.FinMap.{get}
use Rattle.fx_pivot.proofs.Gathers.{item_gives, item_unstuck}
use Rattle.fx_value.specs.Ends.{End, Gives, and_then}
use Rattle.fx_value.specs.Works.{into}
use Rattle.fx_value.proofs.Loops.{told_then}
use Rattle.fx_pivot.specs.Cells.{text_of, texts_of}
use Rattle.fx_pivot.proofs.naming.texts_of.Goals as goal

pub text_of-requires : goal.text_of-requires
text_of-requires c =
    let row = c.args.row.now in
    let labels = c.args.labels.now in
    let i = c.loop-label.label-index in
    let label = c.label-item.result in
    let step : List ℕ → End (List (List ℕ)) = λ l. and_then (text_of (get row l)) (λ text. Gives (text ∷ []) 0) in
    let split : drop i labels ≡ label ∷ drop (i + 1) labels = drop_more labels i label (omega arith) ∙ ap (λ l. l ∷ drop (i + 1) labels) (sym c.label-item.is) in
    λ stuck. item_unstuck ◌++◌ step (texts_of labels row) (map (λ text. text.now) c.loop-label.texts.items) (drop i labels) c.loop-label.invariant label (drop (i + 1) labels) split c.requires
    (ap (λ e. and_then e (λ text. Gives (text ∷ []) 0)) (ap text_of (sym c.get.ensures) ∙ stuck))

pub loop-label-preserved : goal.loop-label-preserved
loop-label-preserved c =
    let row = c.args.row.now in
    let labels = c.args.labels.now in
    let i = c.loop-label.label-index in
    let label = c.label-item.result in
    let step : List ℕ → End (List (List ℕ)) = λ l. and_then (text_of (get row l)) (λ text. Gives (text ∷ []) 0) in
    let split : drop i labels ≡ label ∷ drop (i + 1) labels = drop_more labels i label (omega arith) ∙ ap (λ l. l ∷ drop (i + 1) labels) (sym c.label-item.is) in
    let texts = c.loop-label.texts.items in
    let pushed : c.push.new.self.items ≡ texts ++ c.text_of.result ∷ [] = search rules in
    let gives : step label ≡ Gives (c.text_of.result.now ∷ []) 0
    = told_then (text_of (get row label)) (λ text. Gives (text ∷ []) 0) c.text_of.result.now (ap text_of (sym c.get.ensures) ∙ c.text_of.ensures) in
    item_gives ◌++◌ step (texts_of labels row) (map (λ text. text.now) texts) (drop i labels) c.loop-label.invariant label (drop (i + 1) labels) split
    (λ xs ys zs. sym (append_assoc xs ys zs)) (c.text_of.result.now ∷ []) gives
    ∙ ap (λ found. into ◌++◌ found (texts_of (drop (i + 1) labels) row)) (sym (map-append (λ text. text.now) texts (c.text_of.result ∷ [])))
    ∙ ap (λ (found : List (Bor (List ℕ))). into ◌++◌ (map (λ text. text.now) found) (texts_of (drop (i + 1) labels) row)) (sym pushed)
