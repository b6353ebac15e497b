use Rattle.std.proofs.Common.{◌≡◌, ◌+◌, List, ◌∷◌, map, drop, true, false, sym, ap, ◌∙◌, arith, rules}
use Rattle.std.proofs.lemmas.List.{drop_more}
use Rattle.std.specs.FinMap.Entries.{find}
use Rattle.std.specs.Ordering.{eq_by_cmp}
use Rattle.fx_base.specs.Text.{text_cmp}
use Rattle.fx_data.specs.declared.key.KeyEntry.{KeyEntry}
use Rattle.fx_window.specs.Uncut.{value_of}
use Rattle.fx_window.proofs.Plain.{found_later, found_here}
use Rattle.fx_window.proofs.uncutting.value_in.Goals as goal

pub loop-entry-preserved : goal.loop-entry-preserved
loop-entry-preserved c =
    let label = c.args.label.now in
    let es = c.as_slice-entry-items.result.now in
    let i = c.loop-entry.entry-index in
    let e = c.entry-item.result in
    let same : es ≡ c.args.key.now.entries = c.as_slice-entry-items.ensures in
    let apart : eq_by_cmp text_cmp label e.label ≡ false = search rules in
    let split : drop i es ≡ e ∷ drop (i + 1) es = drop_more es i e (omega arith) ∙ ap (λ x. x ∷ drop (i + 1) es) (sym c.entry-item.is) in
    ap (λ (xs : List KeyEntry). find text_cmp label (map value_of (drop (i + 1) xs))) (sym same) ∙ sym (found_later label e (drop (i + 1) es) apart)
    ∙ ap (λ (xs : List KeyEntry). find text_cmp label (map value_of xs)) (sym split)
    ∙ ap (λ (xs : List KeyEntry). find text_cmp label (map value_of (drop i xs))) same ∙ c.loop-entry.invariant

pub returns-then-is_eq : goal.returns-then-is_eq
returns-then-is_eq c =
    let label = c.args.label.now in
    let es = c.as_slice-entry-items.result.now in
    let i = c.loop-entry.entry-index in
    let e = c.entry-item.result in
    let same : es ≡ c.args.key.now.entries = c.as_slice-entry-items.ensures in
    let tie : eq_by_cmp text_cmp label e.label ≡ true = search rules in
    let split : drop i es ≡ e ∷ drop (i + 1) es = drop_more es i e (omega arith) ∙ ap (λ x. x ∷ drop (i + 1) es) (sym c.entry-item.is) in
    sym (found_here label e (drop (i + 1) es) tie) ∙ ap (λ (xs : List KeyEntry). find text_cmp label (map value_of xs)) (sym split)
    ∙ ap (λ (xs : List KeyEntry). find text_cmp label (map value_of (drop i xs))) same ∙ c.loop-entry.invariant
