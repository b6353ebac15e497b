use Rattle.std.proofs.Common.{refl, Some}
use Rattle.std.specs.Prelude.{codes}
use Rattle.fx_schemes.proofs.ColumnLaws.{distincts, distincts_law}
use Rattle.fx_schemes.proofs.SchemeLaws.{by_word}
use Rattle.fx_schemes.proofs.aggregates.distinct.Goals as goal

pub returns : goal.returns
returns c =
    by_word c.transform.result _ c.args.given.now (codes "column") (Some (codes "_value")) _ distincts distincts_law c.transform.ensures (λ e. rw e refl) (λ x e. rw e refl)
