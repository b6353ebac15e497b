use Rattle.std.proofs.Common.{◌≡◌, ℕ, List, [], ◌∷◌, map, ap, ◌∙◌, rules}
use Rattle.std.proofs.lemmas.Result.{IfOk-weaker}
use Rattle.std.specs.Prelude.{codes}
use Rattle.fx_value.specs.Change.{all_changed}
use Rattle.fx_value.specs.declared.change.Change.{Change}
use Rattle.fx_value.specs.declared.change.Change.TheVariants.{Set}
use Rattle.fx_value.specs.declared.scalar.Scalar.TheVariants.{Time}
use Rattle.fx_group.specs.Answer.{Row}
use Rattle.fx_window.specs.Plain.{uncut_set}
use Rattle.fx_window.proofs.uncutting.set_rows.Goals as goal

pub returns : goal.returns
returns c =
    let l = c.args.labels.now in
    let start = c.args.start in
    let stop = c.args.stop in
    let time = c.args.time in
    let changes : c.in_ok-changes.changes.items ≡ Set l.time (Time time) ∷ Set l.start (Time start) ∷ Set l.stop (Time stop) ∷ [] = search rules in
    IfOk-weaker c.change_rows.result (λ (rs : List Row). rs ≡ map (all_changed c.as_slice.result.now) c.args.rows) (λ (rs : List Row). rs ≡ map (uncut_set start stop time) c.args.rows)
    (λ rs is. is ∙ ap (λ (cs : List Change). map (all_changed cs) c.args.rows)
    (c.as_slice.ensures.value ∙ changes ∙ ap (λ (x : List ℕ). Set x (Time time) ∷ Set l.start (Time start) ∷ Set l.stop (Time stop) ∷ []) c.requires.time
    ∙ ap (λ (x : List ℕ). Set (codes "_time") (Time time) ∷ Set x (Time start) ∷ Set l.stop (Time stop) ∷ []) c.requires.start
    ∙ ap (λ (x : List ℕ). Set (codes "_time") (Time time) ∷ Set (codes "_start") (Time start) ∷ Set x (Time stop) ∷ []) c.requires.stop))
    c.change_rows.ensures
