use Rattle.std.proofs.Common.{◌≡◌, true, ap, refl, ◌∙◌}
use Rattle.std.specs.Ordering.{nat_cmp}
use Rattle.std.specs.Cmp.Lexicographic.{slice_cmp}
use Rattle.fx_table.specs.CaseTable.{rises}
use Rattle.fx_scan.specs.Tables.{symbols}
use Rattle.fx_scan.proofs.LentRows.{rises_as_texts}
use Rattle.fx_scan.proofs.symbol_table.SymbolTable.over.Goals as goal

symbols_rise : rises (slice_cmp nat_cmp) symbols ≡ true
unfolding symbols
symbols_rise = refl

pub unreachable-requires : goal.unreachable-requires
unreachable-requires c =
    let rise = rises_as_texts c.args.rows.now ∙ ap (rises (slice_cmp nat_cmp)) c.requires ∙ symbols_rise in
    let falls = c.in-None.ensures in
    cc
