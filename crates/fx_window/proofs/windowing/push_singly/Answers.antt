use Rattle.std.proofs.Common.{◌≡◌, ◌+◌, ◌-◌, ◌∷◌, [], List, take, drop, sym, ap, subst, ◌∙◌, arith, drop_of_length-le}
use Rattle.std.specs.List.{flat_map}
use Rattle.fx_data.specs.Table.{IsLawfulTable}
use Rattle.fx_group.specs.Answer.{Row}
use Rattle.fx_group.specs.Turned.{with_rows}
use Rattle.fx_window.specs.Reaches.{copies_of}
use Rattle.fx_window.proofs.Joins.{row_at, slice_at, lawful_one, singly_next}
use Rattle.fx_window.proofs.windowing.push_singly.Goals as goal

pub push_windows-requires-clause-lawful : goal.push_windows-requires-clause-lawful
push_windows-requires-clause-lawful c =
    let f = c.args.frame.now in
    let rows = c.args.rows.now in
    let i = c.loop-i.i in
    let one : take ((i + 1) - i) (drop i rows) ≡ row_at f.every f.period c.args.reach c.args.key.now rows i ∷ []
    = slice_at f.every f.period c.args.reach c.args.key.now rows i ((i + 1) - i) c.loop-i-test.true (omega arith) in
    subst (λ (rs : List Row). IsLawfulTable (record { key = c.args.key.now; rows = rs })) (sym one)
    (lawful_one f.every f.period c.args.reach c.args.key.now rows i c.loop-i-test.true c.requires.lawful)

pub loop-i-preserved : goal.loop-i-preserved
loop-i-preserved c =
    let f = c.args.frame.now in
    let rows = c.args.rows.now in
    let i = c.loop-i.i in
    singly_next f.every f.period c.args.reach c.args.key.now c.loop-i.runs c.in_ok-runs.runs rows (take ((i + 1) - i) (drop i rows)) i c.loop-i-test.true c.requires.lawful
    (slice_at f.every f.period c.args.reach c.args.key.now rows i ((i + 1) - i) c.loop-i-test.true (omega arith)) c.in_ok-runs.ensures
    ∙ c.loop-i.invariant

pub returns : goal.returns
returns c =
    let f = c.args.frame.now in
    ap (λ (rs : List Row). with_rows c.loop-i.runs (flat_map (copies_of f.every f.period c.args.reach c.args.key.now) rs)) (sym (drop_of_length-le c.args.rows.now c.loop-i-test.false))
    ∙ c.loop-i.invariant
