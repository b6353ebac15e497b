use Rattle.std.proofs.Common.{refl, Some}
use Rattle.std.specs.Prelude.{codes}
use Rattle.fx_schemes.proofs.ChangeLaws.{steps, steps_law}
use Rattle.fx_schemes.proofs.SchemeLaws.{by_word}
use Rattle.fx_schemes.proofs.columns.steps.Goals as goal

pub returns : goal.returns
returns c =
    by_word c.transform.result _ c.args.given.now (codes "columns") (Some (codes "_value")) _ steps steps_law c.transform.ensures (λ e. rw e refl) (λ x e. rw e refl)
