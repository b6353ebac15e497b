use Rattle.std.proofs.Common.{refl, Some}
use Rattle.std.specs.Prelude.{codes}
use Rattle.fx_schemes.specs.declared.simple.Bound.TheVariants as bound
use Rattle.fx_schemes.proofs.ColumnLaws.{ends_law, selects}
use Rattle.fx_schemes.proofs.SchemeLaws.{by_word}
use Rattle.fx_schemes.proofs.aggregates.end.Goals as goal

pub returns : goal.returns
returns c =
    by_word c.transform.result _ c.args.given.now (codes "column") (Some (codes "_value")) _ (selects bound.Column) ends_law c.transform.ensures (λ e. rw e refl) (λ x e. rw e refl)
