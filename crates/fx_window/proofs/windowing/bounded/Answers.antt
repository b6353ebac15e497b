use Rattle.std.proofs.Common.{◌≡◌, ℕ, List, [], ◌∷◌, map, ap, ◌∙◌, rules}
use Rattle.std.specs.Prelude.{codes}
use Rattle.fx_value.specs.Change.{all_changed}
use Rattle.fx_value.specs.declared.change.Change.{Change}
use Rattle.fx_value.specs.declared.change.Change.TheVariants.{Set}
use Rattle.fx_value.specs.declared.scalar.Scalar.TheVariants.{Time}
use Rattle.fx_group.specs.RangeRows.{bounded_key}
use Rattle.fx_group.proofs.Ranged.{bounded_is}
use Rattle.fx_window.proofs.windowing.bounded.Goals as goal

pub returns : goal.returns
returns c =
    let start = c.args.start in
    let stop = c.args.stop in
    let key : c.in_ok-key.key ≡ bounded_key start stop c.args.key.now = search rules in
    let changes : c.in_ok-changes.changes.items ≡ Set c.args.labels.now.start (Time start) ∷ Set c.args.labels.now.stop (Time stop) ∷ [] = search rules in
    bounded_is start stop (record { key = c.args.key.now; rows = c.args.rows }) c.in_ok-key.key c.in_ok-rows.rows key
    (c.in_ok-rows.ensures ∙ ap (λ (cs : List Change). map (all_changed cs) c.args.rows)
    (c.as_slice.ensures.value ∙ changes ∙ ap (λ (l : List ℕ). Set l (Time start) ∷ Set c.args.labels.now.stop (Time stop) ∷ []) c.requires.start
    ∙ ap (λ (l : List ℕ). Set (codes "_start") (Time start) ∷ Set l (Time stop) ∷ []) c.requires.stop))
