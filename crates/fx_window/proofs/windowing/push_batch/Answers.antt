use Rattle.std.proofs.Common.{◌≡◌, ◌<◌, List, map, length, ap, subst, ◌∙◌, arith, rules}
use Rattle.std.proofs.lemmas.Result.{IfOk-weaker}
use Rattle.std.specs.List.{flat_map}
use Rattle.std.specs.Prelude.{IfOk, IsTrue}
use Rattle.fx_data.specs.Regrouped.{all_joined}
use Rattle.fx_group.specs.Answer.{Row}
use Rattle.fx_group.specs.Turned.{Groups, with_rows}
use Rattle.fx_window.specs.Numbers.{numbers}
use Rattle.fx_window.specs.Reaches.{copies_of, rows_in}
use Rattle.fx_window.proofs.Joins.{window_by_window}
use Rattle.fx_window.proofs.windowing.push_batch.Goals as goal

pub returns-then-are_apart : goal.returns-then-are_apart
returns-then-are_apart c =
    let f = c.args.frame.now in
    let key = c.args.key.now in
    let reach = c.args.batch.reach in
    let rows = c.args.batch.rows in
    let same : c.as_slice-rows.result.now ≡ rows = c.as_slice-rows.ensures in
    let some : 0 < length rows = subst (λ (rs : List Row). 0 < length rs) same (omega arith) in
    let apart : IsTrue c.are_apart.result = search rules in
    IfOk-weaker c.push_windows.result (λ (g : Groups). g ≡ all_joined c.args.runs (map (rows_in f.every f.period reach key c.as_slice-rows.result.now) (numbers reach.first reach.next)))
    (λ (g : Groups). g ≡ with_rows c.args.runs (flat_map (copies_of f.every f.period reach key) rows))
    (λ g is. is ∙ ap (λ (rs : List Row). all_joined c.args.runs (map (rows_in f.every f.period reach key rs) (numbers reach.first reach.next))) same
    ∙ window_by_window f.every f.period reach key c.args.runs rows some (c.are_apart.ensures apart) c.requires.lawful)
    c.push_windows.ensures

pub returns : goal.returns
returns c =
    let f = c.args.frame.now in
    subst (λ (rs : List Row). IfOk c.push_singly.result (λ (g : Groups). g ≡ with_rows c.args.runs (flat_map (copies_of f.every f.period c.args.batch.reach c.args.key.now) rs)))
    c.as_slice-rows.ensures c.push_singly.ensures
