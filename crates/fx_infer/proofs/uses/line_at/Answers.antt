use Rattle.std.proofs.Common.{subst}
use Rattle.std.specs.Prelude.{option_map}
use Rattle.fx_schemes.specs.Builtins.{IsLine}
use Rattle.fx_schemes.specs.Scheme.{Says, shown}
use Rattle.fx_infer.proofs.UsingLaws.{line_found}
use Rattle.fx_infer.proofs.uses.line_at.Goals as goal

pub returns-in_ok-fresh_line-in-Some : goal.returns-in_ok-fresh_line-in-Some
returns-in_ok-fresh_line-in-Some c b is =
    line_found b c.args.given.now (shown c.in-Some.scheme) c.args.bindings c.in_ok-fresh_line-in-Some.field-0.bindings c.in_ok-fresh_line-in-Some.field-0.line
    (subst (λ o. Says (IsLine b c.args.given.now) (option_map shown o)) c.in-Some.is (c.in_ok-scheme.ensures b is)) c.in_ok-fresh_line-in-Some.ensures
