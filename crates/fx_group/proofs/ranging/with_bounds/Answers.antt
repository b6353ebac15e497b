use Rattle.std.proofs.Common.{◌≡◌, List, ℕ, map, ap, ◌∙◌, rules}
use Rattle.std.specs.Prelude.{codes}
use Rattle.fx_value.specs.Change.{all_changed}
use Rattle.fx_value.specs.declared.change.Change.{Change}
use Rattle.fx_value.specs.declared.scalar.Scalar.TheVariants.{Time}
use Rattle.fx_data.specs.Columns.{key_with}
use Rattle.fx_data.specs.declared.key.Key.{Key}
use Rattle.fx_group.proofs.Ranged.{bounded_is}
use Rattle.fx_group.proofs.ranging.with_bounds.Goals as goal

pub returns : goal.returns
returns c =
    let b = c.args.bounds.now in
    let started : c.in_ok-started.started ≡ key_with c.args.table.key b.start_label (Time b.start) = search rules in
    let stopped : c.in_ok-key.key ≡ key_with c.in_ok-started.started b.stop_label (Time b.stop) = search rules in
    let key : c.in_ok-key.key ≡ key_with (key_with c.args.table.key (codes "_start") (Time b.start)) (codes "_stop") (Time b.stop)
    = stopped ∙ ap (λ (k : Key). key_with k b.stop_label (Time b.stop)) started
    ∙ ap (λ (label : List ℕ). key_with (key_with c.args.table.key label (Time b.start)) b.stop_label (Time b.stop)) c.requires.start_label
    ∙ ap (λ (label : List ℕ). key_with (key_with c.args.table.key (codes "_start") (Time b.start)) label (Time b.stop)) c.requires.stop_label in
    bounded_is b.start b.stop c.args.table c.in_ok-key.key c.in_ok-rows.rows key
    (c.in_ok-rows.ensures ∙ ap (λ (changes : List Change). map (all_changed changes) c.args.table.rows) (c.as_slice.ensures ∙ c.requires.changes))
