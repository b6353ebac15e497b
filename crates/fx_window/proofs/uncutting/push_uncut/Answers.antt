use Rattle.std.proofs.Common.{◌≡◌, ℤ, List, ◌++◌, map, ap, subst, ◌∙◌, rules}
use Rattle.std.specs.Prelude.{OnOk}
use Rattle.fx_data.specs.declared.key.Key.{Key}
use Rattle.fx_data.specs.declared.keyed_row.KeyedRow.{KeyedRow}
use Rattle.fx_group.specs.Answer.{Row}
use Rattle.fx_group.specs.RangeRows.{bounded_key}
use Rattle.fx_window.specs.Plain.{stop_in, uncut_set}
use Rattle.fx_window.proofs.Plain.{uncut_rows}
use Rattle.fx_window.proofs.uncutting.push_uncut.Goals as goal

pub returns : goal.returns
returns c =
    let keyed : Key → List Row → List KeyedRow = λ key rows. map (λ (row : Row). record { key = key; row = row }) rows in
    let start = c.args.start in
    let stop = c.args.stop in
    let t = c.args.window in
    let time : c.stop_in-time.result ≡ stop_in t.key = search rules in
    let set : c.in_ok-rows.rows ≡ map (uncut_set start stop c.stop_in-time.result) t.rows = search rules in
    let key : c.in_ok-key.key ≡ bounded_key start stop t.key = search rules in
    let rows : c.in_ok-rows.rows ≡ map (uncut_set start stop (stop_in t.key)) t.rows = set ∙ ap (λ (last : ℤ). map (uncut_set start stop last) t.rows) time in
    subst (λ (made : List KeyedRow). OnOk c.push_keyed.result (c.push_keyed.new.all.items ≡ c.args.all.now.items ++ made))
    ((λ i. keyed (key i) (rows i)) ∙ uncut_rows start stop t) c.push_keyed.ensures
