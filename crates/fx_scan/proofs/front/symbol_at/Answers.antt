use Rattle.std.proofs.Common.{sym, subst, ◌∙◌}
use Rattle.fx_scan.specs.Readers.{IsFound}
use Rattle.fx_scan.proofs.SymbolLemmas.{no_symbol, symbol_taken}
use Rattle.fx_scan.proofs.front.symbol_at.Goals as goal

pub returns-in_err-len : goal.returns-in_err-len
returns-in_err-len c =
    subst (IsFound c.args.mode c.args.s.now) (sym c.from_residual.ensures) (no_symbol c.args.mode c.args.s.now c.requires (sym c.symbol_len.ensures ∙ c.in_err-len.was))

pub returns : goal.returns
returns c = symbol_taken c.args.mode c.args.s.now c.in_ok-len.len c.requires (sym c.symbol_len.ensures ∙ c.in_ok-len.was)
