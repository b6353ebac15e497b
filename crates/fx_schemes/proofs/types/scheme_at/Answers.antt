use Rattle.std.proofs.Common.{subst, ◌∙◌}
use Rattle.std.specs.Prelude.{IfOk, option_map}
use Rattle.fx_schemes.specs.Builtins.{IsLine}
use Rattle.fx_schemes.specs.Scheme.{Says, shown}
use Rattle.fx_schemes.proofs.NumberLaws.{at_its_number}
use Rattle.fx_schemes.proofs.SchemeLaws.{no_word, same_word}
use Rattle.fx_schemes.proofs.types.scheme_at.Goals as goal

pub unreachable-requires : goal.unreachable-requires
unreachable-requires c = no_word c.numbered.result c.requires.0 c.in-None.is (c.numbered.ensures ∙ at_its_number c.requires.0 c.args.id.number c.requires.1)

pub returns : goal.returns
returns c = λ x e.
    subst (λ y. IfOk c.line.result (λ o. Says (IsLine y c.args.given.now) (option_map shown o)))
    (same_word c.numbered.result c.in-Some.builtin x c.in-Some.is (c.numbered.ensures ∙ at_its_number x c.args.id.number e)) c.line.ensures
