use Rattle.std.proofs.Common.{refl, None}
use Rattle.std.specs.Prelude.{codes}
use Rattle.fx_schemes.specs.Builtins.{IsLine}
use Rattle.fx_schemes.proofs.ChangeLaws.{sets, sets_law}
use Rattle.fx_schemes.proofs.SchemeLaws.{by_word}
use Rattle.fx_schemes.proofs.columns.set.Goals as goal

pub returns : goal.returns
unfolding IsLine
returns c =
    by_word c.transform.result _ c.args.given.now (codes "key") None _ sets sets_law c.transform.ensures (λ e. rw e refl) (λ x e. rw e refl)
