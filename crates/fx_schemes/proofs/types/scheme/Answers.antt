use Rattle.std.proofs.Common.{sym, subst}
use Rattle.std.specs.Prelude.{option_map}
use Rattle.fx_schemes.specs.Builtins.{IsLine}
use Rattle.fx_schemes.specs.Line.{Line}
use Rattle.fx_schemes.specs.Scheme.{Says, shown}
use Rattle.fx_schemes.proofs.LineLaws.{has_line}
use Rattle.fx_schemes.proofs.types.scheme.Goals as goal

pub unreachable-requires : goal.unreachable-requires
unreachable-requires c =
    let x = c.requires.0 in
    let none : (L : Line) → IsLine x c.empty-none.result L → ⊥ =
    subst (λ o. Says (IsLine x c.empty-none.result) (option_map shown o)) c.in-None.is (c.in_ok-scheme.ensures x c.requires.1) in
    let line = has_line x c.requires.2 in
    none line.0 (subst (λ w. IsLine x w line.0) (sym c.empty-none.ensures) line.1)
