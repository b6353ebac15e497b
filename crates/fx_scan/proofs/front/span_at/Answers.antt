use Rattle.std.proofs.Common.{◌<◌, sym, subst, arith}
use Rattle.fx_scan.specs.declared.token.TokenKind.TheVariants as kind
use Rattle.fx_scan.specs.Readers.{IsTaken, span_len}
use Rattle.fx_scan.proofs.FoundLemmas.{span_taken}
use Rattle.fx_scan.proofs.front.span_at.Goals as goal

pub returns-then-len-gt0 : goal.returns-then-len-gt0
returns-then-len-gt0 c =
    let some : 0 < span_len c.args.s.now = omega (arith, c.span_len-len.ensures) in
    subst (IsTaken c.args.mode c.args.s.now kind.Span) (sym c.span_len-len.ensures) (span_taken c.args.mode c.args.s.now c.requires.digits c.requires.no_time some)
