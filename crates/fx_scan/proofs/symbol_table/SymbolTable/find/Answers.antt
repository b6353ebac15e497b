use Rattle.std.proofs.Common.{ap, ◌∙◌}
use Rattle.std.specs.Ordering.{nat_cmp}
use Rattle.std.specs.Cmp.Lexicographic.{slice_cmp}
use Rattle.fx_table.specs.CaseTable.{value_at}
use Rattle.fx_scan.specs.Tables.{symbol_of}
use Rattle.fx_scan.proofs.LentRows.{value_as_texts}
use Rattle.fx_scan.proofs.symbol_table.SymbolTable.find.Goals as goal

pub returns : goal.returns
unfolding symbol_of
returns c =
    c.copied.ensures ∙ c.find.ensures ∙ value_as_texts c.args.text c.args.self.now.table.rows.now
    ∙ ap (value_at (slice_cmp nat_cmp) c.args.text.now) c.args.self.now.whole
