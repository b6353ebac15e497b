use Rattle.std.proofs.Common.{◌≡◌, false, drop, sym, ap, ◌∙◌}
use Rattle.fx_scan.specs.Forms.{begins}
use Rattle.fx_scan.specs.Readers.{is_second}
use Rattle.fx_scan.proofs.SymbolLemmas.{double_by_second}
use Rattle.fx_scan.proofs.front.begins_double.Goals as goal

pub returns-else-begins_second : goal.returns-else-begins_second
returns-else-begins_second c =
    let no : begins is_second (drop 1 c.args.s.now) ≡ false = ap (begins is_second) (sym c.past.ensures) ∙ sym c.begins_second.ensures ∙ c.if-begins_second.false in
    let whole = rw no at (double_by_second c.args.s.now) in
    c.if-begins_second.false ∙ whole
