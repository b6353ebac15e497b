use Rattle.std.proofs.Common.{◌≡◌, List, pos, FitsSigned, w64, sym, ap, subst, ◌∙◌, rules}
use Rattle.std.proofs.lemmas.Int.{to_z-of_z}
use Rattle.std.specs.List.{AllByRecursion}
use Rattle.std.specs.Prelude.{None, Some}
use Rattle.fx_time.specs.declared.span.Span.{Span}
use Rattle.fx_data.specs.Table.{HasKey}
use Rattle.fx_group.specs.Answer.{Row}
use Rattle.fx_window.specs.Cut.{bounds_of, windows_of}
use Rattle.fx_window.specs.Plain.{placed_all}
use Rattle.fx_window.specs.declared.cutting.CutTable.{CutTable}
use Rattle.fx_window.specs.declared.standing.Placed.{Placed}
use Rattle.fx_window.proofs.Plain.{placed_has, cut_is}
use Rattle.fx_window.proofs.cutting.cut.Goals as goal

pub windows_within-requires-clause-columns : goal.windows_within-requires-clause-columns
windows_within-requires-clause-columns c =
    let entries = c.args.table.now.key.entries in
    let rows : c.in_ok-rows.rows ≡ c.args.table.now.rows = c.in_ok-rows.ensures ∙ c.as_slice.ensures in
    subst (λ (ps : List Placed). AllByRecursion (λ (p : Placed). HasKey entries p.row) ps)
    (sym (c.in_ok-placed.ensures ∙ ap (λ (rs : List Row). placed_all rs) rows)) (placed_has entries c.args.table.now.rows c.requires.lawful.columns)

pub returns-in-None : goal.returns-in-None
returns-in-None c =
    let t = c.args.table.now in
    let rows : c.in_ok-rows.rows ≡ t.rows = c.in_ok-rows.ensures ∙ c.as_slice.ensures in
    let made : CutTable = record { start = pos 0; stop = pos 0; windows = c.empty.result } in
    cut_is c.args.every c.args.create_empty t c.in_ok-placed.placed.items None made c.requires.unstuck
    (c.in_ok-placed.ensures ∙ ap (λ (rs : List Row). placed_all rs) rows)
    (sym c.in-None.is ∙ c.bounds_of.ensures ∙ ap (λ (ps : List Placed). bounds_of ps) c.as_slice-2.ensures.value)
    (λ i. record { start = pos 0; stop = pos 0; windows = c.empty.ensures i })

pub returns : goal.returns
returns c =
    let t = c.args.table.now in
    let b = c.in-Some.bounds in
    let ps = c.in_ok-placed.placed.items in
    let start : FitsSigned w64 b.start = search rules in
    let stop : FitsSigned w64 b.stop = search rules in
    let rows : c.in_ok-rows.rows ≡ t.rows = c.in_ok-rows.ensures ∙ c.as_slice.ensures in
    let windows : c.in_ok-windows-in-Some.windows ≡ windows_of c.args.every c.args.create_empty b t.key ps
    = c.in_ok-windows-in-Some.ensures ∙ ap (λ (every : Span). windows_of every c.args.create_empty b t.key ps) c.in_ok-frame.ensures.every in
    let made : CutTable = record { start = b.start; stop = b.stop; windows = c.in_ok-windows-in-Some.windows } in
    simp to_z-of_z (cut_is c.args.every c.args.create_empty t ps (Some b) made c.requires.unstuck
    (c.in_ok-placed.ensures ∙ ap (λ (rs : List Row). placed_all rs) rows)
    (sym c.in-Some.is ∙ c.bounds_of.ensures ∙ ap (λ (qs : List Placed). bounds_of qs) c.as_slice-2.ensures.value)
    (λ i. record { start = b.start; stop = b.stop; windows = windows i }))
