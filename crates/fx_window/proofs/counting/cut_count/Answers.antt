use Rattle.std.proofs.Common.{◌≡◌, Bool, true, false, List, [], length, pos, refl, sym, ap, subst, ◌∙◌, rules}
use Rattle.std.specs.List.{AllByRecursion}
use Rattle.std.specs.Prelude.{None, Some}
use Rattle.fx_data.specs.Table.{HasKey}
use Rattle.fx_group.specs.Answer.{Row}
use Rattle.fx_value.specs.Ends.{Gives}
use Rattle.fx_window.specs.Cut.{bounds_of, cut_of, windows_of}
use Rattle.fx_window.specs.Plain.{placed_all}
use Rattle.fx_window.specs.declared.cutting.CutTable.{CutTable}
use Rattle.fx_window.specs.declared.standing.Placed.{Placed}
use Rattle.fx_window.proofs.Counts.{size_is}
use Rattle.fx_window.proofs.Plain.{placed_has, cut_is}
use Rattle.fx_window.proofs.counting.cut_count.Goals as goal

pub returns-then-not-create_empty : goal.returns-then-not-create_empty
returns-then-not-create_empty c =
    let none : c.args.create_empty ≡ false = search rules in
    let made : cut_of c.args.every false c.args.table.now ≡ Gives c.in_ok-parts.parts 0 = c.in_ok-parts.ensures in
    size_is c.args.every c.args.create_empty c.args.table.now c.in_ok-parts.parts c.len.result (ap (λ (all : Bool). cut_of c.args.every all c.args.table.now) none ∙ made) c.len.ensures

pub returns-in-None : goal.returns-in-None
returns-in-None c =
    let t = c.args.table.now in
    let rows : c.in_ok-rows.rows ≡ t.rows = c.in_ok-rows.ensures ∙ c.as_slice.ensures in
    let made : CutTable = record { start = pos 0; stop = pos 0; windows = [] } in
    size_is c.args.every c.args.create_empty t made 0
    (cut_is c.args.every c.args.create_empty t c.in_ok-placed.placed.items None made c.requires.unstuck
    (c.in_ok-placed.ensures ∙ ap (λ (rs : List Row). placed_all rs) rows)
    (sym c.in-None.is ∙ c.bounds_of.ensures ∙ ap (λ (ps : List Placed). bounds_of ps) c.as_slice-2.ensures.value) refl) refl

pub returns : goal.returns
returns c =
    let t = c.args.table.now in
    let entries = t.key.entries in
    let b = c.in-Some.bounds in
    let ps = c.in_ok-placed.placed.items in
    let all : c.args.create_empty ≡ true = search rules in
    let rows : c.in_ok-rows.rows ≡ t.rows = c.in_ok-rows.ensures ∙ c.as_slice.ensures in
    let placed : ps ≡ placed_all t.rows = c.in_ok-placed.ensures ∙ ap (λ (rs : List Row). placed_all rs) rows in
    let made : CutTable = record { start = b.start; stop = b.stop; windows = windows_of c.args.every c.args.create_empty b t.key ps } in
    let columns : AllByRecursion (λ (p : Placed). HasKey entries p.row) ps
    = subst (λ (qs : List Placed). AllByRecursion (λ (p : Placed). HasKey entries p.row) qs) (sym placed) (placed_has entries t.rows c.requires.lawful.columns) in
    size_is c.args.every c.args.create_empty t made c.count_between.result
    (cut_is c.args.every c.args.create_empty t ps (Some b) made c.requires.unstuck placed
    (sym c.in-Some.is ∙ c.bounds_of.ensures ∙ ap (λ (qs : List Placed). bounds_of qs) c.as_slice-2.ensures.value) refl)
    (sym (c.count_between.ensures.tables t.key ps c.requires.lawful.rising columns) ∙ ap (λ (w : Bool). length (windows_of c.args.every w b t.key ps)) (sym all))
