use Rattle.std.proofs.Common.{◌≡◌, Bool, true, ℤ, List, [], map, sym, ap, subst, ◌∙◌, rules}
use Rattle.std.proofs.lemmas.Result.{IfOk-weaker}
use Rattle.std.specs.Prelude.{IfOk, if◌then◌else◌}
use Rattle.fx_time.specs.declared.span.Span.{Span}
use Rattle.fx_data.specs.Regrouped.{bare, all_joined}
use Rattle.fx_data.specs.declared.table.Table.{Table}
use Rattle.fx_group.specs.Turned.{Groups}
use Rattle.fx_window.specs.Cut.{windows_between, window_key}
use Rattle.fx_window.specs.Numbers.{numbers}
use Rattle.fx_window.specs.Reaches.{AreNear, rows_in}
use Rattle.fx_window.proofs.Cuts.{empty_windows}
use Rattle.fx_window.proofs.cutting.push_empty.Goals as goal

pub push_windows-requires-clause-near : goal.push_windows-requires-clause-near
push_windows-requires-clause-near c =
    let every = c.args.frame.now.every in
    subst (λ (period : Span). AreNear every period c.reach_between-reach.result) (sym c.requires.same) c.reach_between-reach.ensures.near

pub push_windows-requires-clause-lawful : goal.push_windows-requires-clause-lawful
push_windows-requires-clause-lawful c = record { rising = c.requires.rising; columns = tt }

pub returns : goal.returns
returns c =
    let every = c.args.frame.now.every in
    let period = c.args.frame.now.period in
    let r = c.reach_between-reach.result in
    let key = c.args.key.now in
    let b = c.args.bounds in
    let wanted : c.args.wanted ≡ true = search rules in
    subst (λ (w : Bool). IfOk c.push_windows.result (λ (g : Groups). g ≡ all_joined c.args.runs (map bare (if w then map (window_key every b key) (windows_between every b) else [])))) (sym wanted)
    (IfOk-weaker c.push_windows.result (λ (g : Groups). g ≡ all_joined c.args.runs (map (rows_in every period r key []) (numbers r.first r.next)))
    (λ (g : Groups). g ≡ all_joined c.args.runs (map bare (map (window_key every b key) (windows_between every b))))
    (λ g is. is ∙ ap (λ (p : Span). all_joined c.args.runs (map (rows_in every p r key []) (numbers r.first r.next))) c.requires.same
    ∙ ap (λ (ks : List ℤ). all_joined c.args.runs (map (rows_in every every r key []) ks)) c.reach_between-reach.ensures.numbers
    ∙ ap (λ (ts : List Table). all_joined c.args.runs ts) (empty_windows every r b key (windows_between every b) c.reach_between-reach.ensures.low c.reach_between-reach.ensures.high))
    c.push_windows.ensures)
