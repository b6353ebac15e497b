use Rattle.std.proofs.Common.{◌≡◌, List, ap, subst, ◌∙◌}
use Rattle.std.specs.Prelude.{IfOk, slice_get}
use Rattle.fx_group.specs.Answer.{Row}
use Rattle.fx_group.specs.Turned.{Groups}
use Rattle.fx_shape.proofs.Moves.{joined_by_first, lawful_by_first, nothing_by_first}
use Rattle.fx_shape.proofs.run.push_whole.Goals as goal

pub push_table-requires : goal.push_table-requires
push_table-requires c =
    lawful_by_first c.args.key.now c.in_ok-key-in-Some.key c.in-Some.first.now c.args.rows (c.in-Some.ensures.value ∙ ap (λ (rs : List Row). slice_get rs 0) c.as_slice.ensures)
    c.requires.rising c.requires.one c.in_ok-key-in-Some.ensures

pub returns-in_ok-key-in-Some : goal.returns-in_ok-key-in-Some
returns-in_ok-key-in-Some c =
    subst (λ (groups : Groups). IfOk c.push_table.result (λ r. r ≡ groups))
    (joined_by_first c.args.key.now c.in_ok-key-in-Some.key c.in-Some.first.now c.args.rows c.args.runs (c.in-Some.ensures.value ∙ ap (λ (rs : List Row). slice_get rs 0) c.as_slice.ensures)
    c.requires.rising c.requires.one c.in_ok-key-in-Some.ensures)
    c.push_table.ensures

pub returns-in-None : goal.returns-in-None
returns-in-None c =
    nothing_by_first c.args.key.now c.args.rows c.args.runs (c.in-None.ensures.value ∙ ap (λ (rs : List Row). slice_get rs 0) c.as_slice.ensures)
