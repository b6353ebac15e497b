use Rattle.std.proofs.Common.{refl, Some}
use Rattle.std.specs.Prelude.{codes}
use Rattle.fx_schemes.specs.Builtins.{IsLine}
use Rattle.fx_schemes.proofs.ChangeLaws.{elapses, elapses_law}
use Rattle.fx_schemes.proofs.SchemeLaws.{by_words}
use Rattle.fx_schemes.proofs.columns.elapsed.Goals as goal

pub returns : goal.returns
unfolding IsLine
returns c =
    by_words c.transform.result _ c.args.given.now (codes "timeColumn") (Some (codes "_time")) (codes "columnName") (Some (codes "elapsed")) _ elapses elapses_law c.transform.ensures (λ n. rw n refl) (λ x n m. rw (n, m) refl) (λ x y n m. rw (n, m) refl)
