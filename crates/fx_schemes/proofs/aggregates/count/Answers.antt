use Rattle.std.proofs.Common.{refl, Some}
use Rattle.std.specs.Prelude.{codes}
use Rattle.fx_schemes.proofs.ColumnLaws.{counts, counts_law}
use Rattle.fx_schemes.proofs.SchemeLaws.{by_word}
use Rattle.fx_schemes.proofs.aggregates.count.Goals as goal

pub returns : goal.returns
returns c =
    by_word c.transform.result _ c.args.given.now (codes "column") (Some (codes "_value")) _ counts counts_law c.transform.ensures (λ e. rw e refl) (λ x e. rw e refl)
